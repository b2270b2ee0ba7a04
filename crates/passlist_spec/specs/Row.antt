-- What a pass list reads of a row of the register: all nine cells for their form, the second and the last for what they say.
use Rattle.std.specs.Prelude.{ℕ, Bool, true, false, ◌&&◌, List, [], ◌∷◌, eqb, leb}
use Rattle.item_spec.specs.Refusal.{bad_form}
use Rattle.item_spec.specs.Reader.{Reader, got, refused, byte, bytes, ◌>>=◌, ◌>>◌, give, check, no_line}
use Rattle.item_spec.specs.Read.{given, upon, one_form}
use Rattle.passlist_spec.specs.declared.Cell.{Cell}
use Rattle.passlist_spec.specs.declared.Cell.TheVariants.{Name, Number}
use Rattle.passlist_spec.specs.declared.Said.{Said}
use Rattle.passlist_spec.specs.declared.Said.TheVariants as said
use Rattle.std.specs.declared.option.Option.{Option}
use Rattle.std.specs.declared.option.Option.TheVariants as mark

-- the first cell: the name, as the register shows it
unfoldable pub name_cell : List ℕ → List ℕ
name_cell [] = []
name_cell (c ∷ s) = elim (eqb c (byte ",")) [ true ↦ [] | false ↦ c ∷ name_cell s ]

-- a name is shown in bytes from `!` to `~`; a number's bytes are digits
unfoldable pub in_cell : Cell → ℕ → Bool
in_cell Name c = leb (byte "!") c && leb c (byte "~")
in_cell Number c = leb (byte "0") c && leb c (byte "9")

-- a cell, empty or not, and its comma
unfoldable pub past_cell : Cell → Reader (Unit {0})
past_cell k [] = refused bad_form
past_cell k (c ∷ s) =
    elim (eqb c (byte ",")) [
      | true ↦ got tt s
      | false ↦ elim (in_cell k c) [ true ↦ past_cell k s | false ↦ refused bad_form ]
    ]

unfoldable pub said_cell : Reader Said
said_cell =
    upon (bytes "done,") (give said.Done)
    (upon (bytes "unfinished,") (give said.Unfinished)
    (upon (bytes "refused,") (give said.Refused)
    (upon (bytes "fault,") (give said.Fault)
    (upon (bytes "absent,") (give said.Absent) no_line))))

-- numbers, of which any may be left out
unfoldable pub three_cells : Reader (Unit {0})
three_cells = do
  past_cell Number
  past_cell Number
  past_cell Number

-- a row's last cell: a mark, or none
abbrev pub Mark : Type 0
Mark = Option ℕ

-- a mark is 0 to 1000
unfoldable pub mark_of : ℕ → Reader Mark
mark_of m = do
  check (leb m 1000) bad_form
  give (mark.Some m)

-- a mark up to the line's end, or these bytes
unfoldable pub mark_or : List ℕ → Reader Mark
mark_or none = given (one_form 5) mark_of (upon none (give mark.None) no_line)

-- nothing more
unfoldable pub over : Reader (Unit {0})
over [] = got tt []
over (c ∷ s) = refused bad_form

-- the same, and nothing more
unfoldable pub last_mark : List ℕ → Reader Mark
last_mark none = do
  m ← mark_or none
  over
  give m

-- number, port, line; accepted, next, program; mark
unfoldable pub number_cells : Reader Mark
number_cells = do
  three_cells
  three_cells
  last_mark (bytes "\n")

-- candidate, outcome, and these
unfoldable pub row_says : Reader (Said × Mark)
row_says = do
  past_cell Name
  o ← said_cell
  m ← number_cells
  give (o, m)
