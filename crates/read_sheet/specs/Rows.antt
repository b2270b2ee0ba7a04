-- The rows of a type, by their kind.
use Rattle.std.specs.Prelude.{ℕ}
use Rattle.model.specs.declared.Tables.{Tables}
use Rattle.read_spec.specs.Lines.{Lines, ◌>>=◌, hand_on, line}
use Rattle.words.specs.Parts.{with_ends, with_behavior, with_group}
use Rattle.read_sheet_lines.specs.declared.Known.{Known}
use Rattle.read_sheet_lines.specs.declared.Row.{Row}
use Rattle.read_sheet_lines.specs.declared.Rows.{Rows}
use Rattle.read_sheet_lines.specs.declared.Rows.TheVariants as rows
use Rattle.read_sheet_lines.specs.Rows.{row_line}

-- how many slots each type has
abbrev pub per_type : Rows → ℕ
per_type rows.Transitions = 32
per_type rows.Behaviors = 8
per_type rows.Ports = 16

-- row j, counted over all types
abbrev pub put_row : Rows → Tables → ℕ → Row → Tables
put_row rows.Transitions t j x = with_ends t j x.source x.destination
put_row rows.Behaviors t j x = with_behavior t j x.transitions
put_row rows.Ports t j x = with_group t j x.uses x.places x.transitions

-- its line, in a type of which c is known
unfoldable pub row : Rows → Known → ℕ → Tables → Lines Tables
row r c j t = do
  x ← line (row_line r c)
  hand_on (put_row r t j x)
