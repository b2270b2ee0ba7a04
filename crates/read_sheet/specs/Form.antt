-- The form that a setter fills in, as lines: the lines of a sheet without those of the counts, which are counted. docs/FORM.md has it for setters.
use Rattle.std.specs.Prelude.{ℕ, suc, ◌*◌, List, [], ◌∷◌, Bool, true, false, cond, eqb}
use Rattle.item_spec.specs.Refusal.{beyond_limit}
use Rattle.item_spec.specs.Reader.{got, refused, byte, bytes}
use Rattle.item_spec.specs.Read.{key}
use Rattle.model.specs.declared.Tables.{Tables}
use Rattle.model.specs.declared.Program.{Program}
use Rattle.model.specs.Empty.{no_tables, no_program}
use Rattle.read_spec.specs.Limits.{depth_ok, types_ok, places_ok, transitions_ok, behaviors_ok, ports_ok, program_ok}
use Rattle.read_spec.specs.Lines.{Lines, on, stop, ◌>>=◌, ◌>>◌, hand_on, line, each, at_end}
use Rattle.read_spec.specs.Kinds.{edition_line, count_line, initial_line}
use Rattle.read_spec.specs.Fill.{headed, program_of}
use Rattle.read_spec.specs.Texts.{type_lines, instruction_at}
use Rattle.read_chain.specs.Whole.{Whole, whole}
use Rattle.words.specs.Parts.{with_kind, type_of_words}
use Rattle.read_sheet_lines.specs.declared.Known.{Known}
use Rattle.read_sheet_lines.specs.declared.Rows.TheVariants as rows
use Rattle.read_sheet.specs.Rows.{row}
use Rattle.read_sheet.specs.Sheet.{NoOther, NoneLeft}

-- the text begins with k
abbrev pub begins : List ℕ → List ℕ → Bool
begins k s = elim (key k s) [ got u r ↦ true | refused n ↦ false ]

-- how many lines begin with k: of all lines, or of those up to the first that does not; `fresh` where a line begins here
unfoldable pub lines_with : Bool → List ℕ → Bool → List ℕ → ℕ
lines_with all k fresh [] = 0
lines_with all k fresh (c ∷ s) =
    cond fresh
    (cond (begins k (c ∷ s)) (suc (lines_with all k (eqb c (byte "\n")) s)) (cond all (lines_with all k (eqb c (byte "\n")) s) 0))
    (lines_with all k (eqb c (byte "\n")) s)

-- that count, which no line says: nothing is taken, and 3 is given here where it is beyond its limit
unfoldable pub counted : Bool → List ℕ → (ℕ → Bool) → Lines ℕ
counted all k limit s = elim (limit (lines_with all k true s)) [ true ↦ on (lines_with all k true s) s | false ↦ stop beyond_limit s ]

abbrev pub known_as : ℕ → ℕ → ℕ → Known
known_as n m k = record { places = n; initial = m; transitions = k }

-- type i: its transitions stand from 32 i on, its behaviors from 8 i on, its ports from 16 i on
unfoldable pub type_form : ℕ → Tables → Lines Tables
type_form i t = do
  n ← line (count_line (bytes "type=") places_ok)
  m ← line (initial_line n)
  k ← counted false (bytes "tran=") transitions_ok
  u ← each (row rows.Transitions (known_as n m k)) k (i * 32) t
  b ← counted false (bytes "behavior=") behaviors_ok
  v ← each (row rows.Behaviors (known_as n m k)) b (i * 8) u
  p ← counted false (bytes "port=") ports_ok
  w ← each (row rows.Ports (known_as n m k)) p (i * 16) v
  hand_on (with_kind w i (type_of_words n m k b p))

-- a type as a form has it, or a sheet
abbrev pub type_by : Bool → ℕ → Tables → Lines Tables
type_by true = type_form
type_by false = type_lines

-- a form for a sheet with tickets opens with its number; no row stands for 1
unfoldable pub edition_form : Lines ℕ
edition_form s = cond (begins (bytes "sheet=") s) (line edition_line s) (on 1 s)

unfoldable pub form : Lines (Tables × Program)
form = do
  e ← edition_form
  d ← line (count_line (bytes "depth=") depth_ok)
  n ← counted true (bytes "type=") types_ok
  t ← each type_form n 0 (headed d n)
  k ← counted false (bytes "do=") program_ok
  p ← each (instruction_at e n) k 0 (program_of e k)
  at_end
  hand_on (t, p)

-- the number of the refusal, or 0, the place, the tables and the program: none beside a refusal
abbrev pub form_read : List ℕ → Whole (Tables × Program)
form_read s = whole (no_tables, no_program) form s

-- no other outcome and no other words fit the promise, and beside a refusal all words are 0
unfoldable pub NoOtherForm : Type 0
NoOtherForm = NoOther form × NoneLeft form
