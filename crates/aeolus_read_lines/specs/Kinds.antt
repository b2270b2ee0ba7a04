-- The kinds of line that are held to what was read so far: how each is read, and where its numbers are put.
use Rattle.std.specs.Prelude.{ℕ, List}
use Rattle.item_spec.specs.Reader.{Reader, bytes, ◌or◌, no_line, give}
use Rattle.item_spec.specs.Read.{upon}
use Rattle.item_spec.specs.Refusal.{number_of}
use Rattle.item_spec.specs.declared.Refusal.{Refusal}
use Rattle.read_items.specs.Reads.{Outcome, past, fault}
use Rattle.read_items.specs.declared.numbers.Four.{Four}
use Rattle.read_spec.specs.Lines.{Lines, ◌>>=◌, hand_on, line}
use Rattle.read_spec.specs.Kinds.{count_line}
use Rattle.aeolus_model.specs.Model.{Universe, type_of, with_initial, with_to, with_number}
use Rattle.aeolus_read_spec.specs.Limits.{state_ok}
use Rattle.aeolus_read_spec.specs.Kinds.{interface_line, to_line, row_line}
use Rattle.aeolus_read_spec.specs.Texts.{with_interface}
use Rattle.aeolus_read_lines.specs.declared.Kind.{Kind}
use Rattle.aeolus_read_lines.specs.declared.Kind.TheVariants as kind
use Rattle.std.specs.declared.result.Result.{Result}
use Rattle.std.specs.declared.result.Result.TheVariants.{Ok, Err}

-- the number of the key that stands here, of three
unfoldable pub which_of : List ℕ → List ℕ → List ℕ → Reader ℕ
which_of a b c = upon a (give 0) or upon b (give 1) or upon c (give 2) or no_line

-- what the line of a kind gives, and the numbers as that
abbrev pub Value : Kind → Type 0
Value kind.Initial = ℕ
Value kind.Interface = ℕ × ℕ
Value (kind.To q) = ℕ
Value (kind.Row q) = ℕ × ℕ × ℕ

abbrev pub value : (c : Kind) → Four → Value c
value kind.Initial n = n.first
value kind.Interface n = (n.first, n.second)
value (kind.To q) n = n.first
value (kind.Row q) n = (n.first, n.second, n.third)

abbrev pub line_says : (c : Kind) → Result (Four × ℕ) Refusal → Outcome (Value c)
line_says c (Ok (x, n)) = past (value c x) n
line_says c (Err r) = fault (number_of r)

-- the line of a kind in type k, of interfaces the one with number j
abbrev pub line_of : (c : Kind) → ℕ → ℕ → Universe → Reader (Value c)
line_of kind.Initial k j u = count_line (bytes "initial=") (state_ok (type_of u k).states)
line_of kind.Interface k j u = interface_line u k j
line_of (kind.To q) k j u = to_line (type_of u k).states
line_of (kind.Row q) k j u = row_line u k q

abbrev pub put_in : (c : Kind) → ℕ → ℕ → Universe → Value c → Universe
put_in kind.Initial k j u q = with_initial u k q
put_in kind.Interface k j u x = with_interface u k j x.0 x.1
put_in (kind.To q) k j u m = with_to u k q m
put_in (kind.Row q) k j u x = with_number u k q x.0 x.1 x.2

unfoldable pub line_at : Kind → ℕ → ℕ → Universe → Lines Universe
line_at c k j u = do
  x ← line (line_of c k j u)
  hand_on (put_in c k j u x)
