-- What the readers of a start's lines say: the row or the connection and the bytes used, or 01's number.
use Rattle.std.specs.Prelude.{ℕ, ◌<◌, ◌≤◌, min, List, ◌≡◌, Bool, not, cond, ◌&&◌, ◌||◌, leb, ltb, length}
use Rattle.item_spec.specs.Refusal.{bad_form, beyond_limit, bad_clause, number_of}
use Rattle.item_spec.specs.Reader.{Reader, bytes, byte, ◌>>=◌, ◌>>◌, give}
use Rattle.item_spec.specs.Read.{key, number, list, Set}
use Rattle.model.specs.declared.Tables.{Tables}
use Rattle.model.specs.declared.Connection.{Connection}
use Rattle.model.specs.declared.Configuration.{Configuration}
use Rattle.model.specs.View.{type_of, instance}
use Rattle.read_spec.specs.Limits.{five_digits, list_ok, id_ok, type_ok}
use Rattle.start_spec.specs.Row as starts
use Rattle.start_spec.specs.Row.{items_ok, stamp_ok, joins_ok}
use Rattle.rules_spec.specs.Instance.{ports_of}
use Rattle.read_items.specs.Reads.{Outcome, past, fault}
use Rattle.read_items.specs.declared.numbers.Four.{Four}
use Rattle.read_items.specs.declared.Listed.{Listed}
use Rattle.read_lines.specs.declared.LineFault.{LineFault}
use Rattle.read_lines.specs.Runs.{Came, onto, fault_at}
use Rattle.start_spec.specs.Text.{SoFar}
use Rattle.read_start.specs.Items.{pairs_in, queue_in}
use Rattle.read_start.specs.declared.items.Queue.{Queue}
use Rattle.read_start.specs.declared.rows.Lists.{Lists}
use Rattle.read_start.specs.declared.rows.Row.{Row}
use Rattle.read_start.specs.declared.rows.Stood.{Stood}
use Rattle.item_spec.specs.declared.Refusal.{Refusal}
use Rattle.std.specs.declared.option.Option.{Option}
use Rattle.std.specs.declared.option.Option.TheVariants.{Some, None}
use Rattle.std.specs.declared.result.Result.{Result}
use Rattle.std.specs.declared.result.Result.TheVariants.{Ok, Err}

abbrev pub listed : Set → Listed
listed a = record { mask = a.mask; top = a.top }

-- three lists, each ended by a comma
unfoldable pub three_form : Reader Lists
three_form = do
  a ← list five_digits (byte ",")
  x ← list five_digits (byte ",")
  y ← list five_digits (byte ",")
  give (record { marked = listed a; running = listed x; ended = listed y })

abbrev pub three_says : Option (Lists × ℕ) → Outcome Lists
three_says (Some (l, n)) = past l n
three_says None = fault bad_form

-- `instance=id,type,marked,running,ended,`
unfoldable pub row_form : Reader Row
row_form = do
  key (bytes "instance=")
  i ← number five_digits (byte ",")
  k ← number five_digits (byte ",")
  l ← three_form
  give (record { id = i; kind = k; lists = l })

abbrev pub form_says : Option (Row × ℕ) → Outcome Row
form_says (Some (w, n)) = past w n
form_says None = fault bad_form

-- 3, of a queue of any length
unfoldable pub row_passes : ℕ → Tables → Row → List ℕ → ℕ → ℕ → Bool
row_passes d t w slots n last =
    (id_ok w.id && type_ok t.count w.kind)
    && ((list_ok (type_of t w.kind).places w.lists.marked.top
    && (list_ok (type_of t w.kind).transitions w.lists.running.top && list_ok (type_of t w.kind).transitions w.lists.ended.top))
    && (leb n d && (items_ok (type_of t w.kind).behaviors (pairs_in slots (min n 8)) && stamp_ok last)))

abbrev pub row_in : Row → List ℕ → Queue → starts.Row
row_in w slots q = record {
  id = w.id;
  kind = w.kind;
  marked = w.lists.marked.mask;
  running = w.lists.running.mask;
  ended = w.lists.ended.mask;
  queue = queue_in slots q.count;
  last = q.last;
}

unfoldable pub row_says : Result (Row × Queue × ℕ) Refusal → List ℕ → Outcome starts.Row
row_says (Ok (w, q, at)) slots = past (row_in w slots q) at
row_says (Err r) slots = fault (number_of r)

-- a row of the text s has a queue within the depth, in its slots
abbrev pub SmallRow : ℕ → List ℕ → List ℕ → Result (Row × Queue × ℕ) Refusal → Type 0
SmallRow d s slots (Ok (w, q, at)) = (q.count ≤ d) × ((at ≤ length s) × (length slots ≡ 16))
SmallRow d s slots (Err r) = Unit {0}

-- what a reader says that answers the next line's place and the least that may come next, beside the configuration and the last tickets so far
abbrev pub stood_came : Result Stood (LineFault Refusal) → Configuration → List ℕ → Came SoFar
stood_came (Ok o) c lasts = onto (c, o.least, lasts) o.at
stood_came (Err f) c lasts = fault_at (number_of f.refusal) f.at

abbrev pub join_in : Four → Connection
join_in n = record { user = n.first; useport = n.second; provider = n.third; provideport = n.fourth }

abbrev pub join_says : Result (Four × ℕ) Refusal → Outcome Connection
join_says (Ok (n, at)) = past (join_in n) at
join_says (Err r) = fault (number_of r)

-- 3 and 4 of a connection whose numbers are within the flat limits, or 0
abbrev pub in_type : Tables → Configuration → ℕ → ℕ → Bool
in_type t c i q = not (instance c i).present || ltb q (ports_of t (instance c i))

unfoldable pub join_number : Tables → Configuration → ℕ → Four → ℕ
join_number t c m n = cond (in_type t c n.first n.second && in_type t c n.third n.fourth) (cond (joins_ok t c m (join_in n)) 0 bad_clause) beyond_limit

-- the number of what was held to them
abbrev pub held_number : Result (Unit {0}) Refusal → ℕ
held_number (Ok u) = 0
held_number (Err r) = number_of r

-- the provide port of a connection that was read is one of 32 times 16
abbrev pub SmallJoin : Result (Four × ℕ) Refusal → Type 0
SmallJoin (Ok (n, at)) = (n.third < 32) × (n.fourth < 16)
SmallJoin (Err r) = Unit {0}
