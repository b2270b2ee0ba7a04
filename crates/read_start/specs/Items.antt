-- What the readers of an item, of items and of a queue say.
use Rattle.std.specs.Prelude.{ℕ, ◌+◌, ◌≤◌, ◌<◌, List, Bool, true, false, cond, ◌≡◌, ltb, length, take, drop, get_or, set}
use Rattle.item_spec.specs.Refusal.{bad_form}
use Rattle.item_spec.specs.Reader.{Reply, Reader, got, refused}
use Rattle.model.specs.View.{list_of, pair_of}
use Rattle.start_spec.specs.Row.{plain_item, ticket_item, plain_queue, ticket_queue}
use Rattle.read_items.specs.Reads.{Outcome, past, fault}
use Rattle.words.specs.Parts.{in_word}
use Rattle.read_start.specs.declared.items.Pair.{Pair}
use Rattle.read_start.specs.declared.items.Queue.{Queue}
use Rattle.std.specs.declared.option.Option.{Option}
use Rattle.std.specs.declared.option.Option.TheVariants.{Some, None}

-- an item and a queue, in a sheet with tickets or without
abbrev pub item_in : Bool → ℕ → Reader (ℕ × ℕ)
item_in tickets z = λ s. elim tickets [ true ↦ ticket_item z s | false ↦ plain_item z s ]

abbrev pub queue_by : Bool → Reader (List (ℕ × ℕ) × ℕ)
queue_by tickets = λ s. elim tickets [ true ↦ ticket_queue s | false ↦ plain_queue s ]

abbrev pub item_of : Pair → ℕ × ℕ
item_of x = (x.behavior, x.stamp)

abbrev pub pair_says : Option (Pair × ℕ) → Outcome (ℕ × ℕ)
pair_says (Some (x, n)) = past (item_of x) n
pair_says None = fault bad_form

abbrev pub item_says : Option (Pair × Bool × ℕ) → Outcome ((ℕ × ℕ) × Bool)
item_says (Some (x, more, n)) = past (item_of x, more) n
item_says None = fault bad_form

-- item n put into the slots
abbrev pub item_put : List ℕ → ℕ → ℕ → ℕ → List ℕ
item_put slots n b k = cond (ltb n 8) (set (set slots n b) (8 + n) k) slots

abbrev pub no_item : ℕ × ℕ
no_item = (0, 0)

-- the items of the slots, of at most eight
abbrev pub pairs_in : List ℕ → ℕ → List (ℕ × ℕ)
pairs_in slots n = list_of n (λ r. (get_or slots r 0, get_or slots (8 + r) 0))

-- each behavior with its stamp
pub record PairedUp (old new : List ℕ) : Type 0 where
  pub width : length new ≡ length old
  pub words : (r : ℕ) → r < 8 → get_or new r 0 ≡ in_word (pair_of (get_or old r 0) (get_or old (8 + r) 0))

-- and then the queue of at most eight
abbrev pub queue_in : List ℕ → ℕ → List ℕ
queue_in slots n = take n slots

-- the first eight of l stand in the slots, and every behavior has five digits at most
pub record Slotted (slots : List ℕ) (l : List (ℕ × ℕ)) : Type 0 where
  pub width : length slots ≡ 16
  pub behaviors : (r : ℕ) → r < 8 → get_or slots r 0 ≡ (get_or l r no_item).0
  pub stamps : (r : ℕ) → r < 8 → get_or slots (8 + r) 0 ≡ (get_or l r no_item).1
  pub small : (r : ℕ) → (get_or l r no_item).0 < 100000

-- on the text s, where a definition replies m
pub data ItemsRead (s slots : List ℕ) (m : Reply (List (ℕ × ℕ))) : Option (ℕ × ℕ) → Type 0 where
  none : m ≡ refused bad_form → ItemsRead s slots m None
  some : {n at : ℕ} (l : List (ℕ × ℕ)) → at ≤ length s → m ≡ got l (drop at s) → n ≡ length l → Slotted slots l → ItemsRead s slots m (Some (n, at))

pub data QueueRead (s slots : List ℕ) (m : Reply (List (ℕ × ℕ) × ℕ)) : Option (Queue × ℕ) → Type 0 where
  unread : m ≡ refused bad_form → QueueRead s slots m None
  read : {q : Queue} {at : ℕ} (l : List (ℕ × ℕ)) → at ≤ length s → m ≡ got (l, q.last) (drop at s) → q.count ≡ length l → Slotted slots l
      → QueueRead s slots m (Some (q, at))
