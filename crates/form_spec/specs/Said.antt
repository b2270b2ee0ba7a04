-- What reading a form or a sheet comes to: the number of the refusal, or 0, the row or line at fault, and the tables and the program.
use Rattle.std.specs.Prelude.{ℕ, List, ◌++◌, true, false, cond, ◌≡◌, leb, length}
use Rattle.item_spec.specs.Reader.{bytes}
use Rattle.item_spec.specs.Refusal.{too_long}
use Rattle.model.specs.declared.Tables.{Tables}
use Rattle.model.specs.declared.Program.{Program}
use Rattle.model.specs.Empty.{no_tables, no_program}
use Rattle.read_spec.specs.Limits.{length_ok}
use Rattle.read_spec.specs.Place.{lfs, line_number}
use Rattle.read_chain.specs.Whole.{Whole}
use Rattle.read_sheet.specs.Sheet.{sheet_read}
use Rattle.read_sheet.specs.Form.{form_read}
use Rattle.form_cells.specs.Cells.{unmarked, separator_of, lines_by, lines_of, looked_at}

pub record Said : Type 0 where
  pub refused : ℕ
  pub line : ℕ
  pub value : Tables × Program

-- docs/FORM.md: "the number and the row at fault, counted from 1"; 0 where none is, and 01: "0 for number 1"
unfoldable pub line_at_fault : ℕ → ℕ → List ℕ → ℕ
line_at_fault n at s = cond (leb n too_long) 0 (line_number s at)

-- of the lines s, of which w was read
abbrev pub said : List ℕ → Whole (Tables × Program) → Said
said s w = record { refused = w.refused; line = line_at_fault w.refused w.place s; value = w.value }

-- of the lines l of a form
abbrev pub lines_said : List ℕ → Said
lines_said l = said l (form_read l)

-- docs/FORM.md: "A form has at most 32,768 bytes"; "a row's own line would be refused with the same number", and has the row's number
unfoldable pub form_said : List ℕ → Said
form_said s =
    elim (length_ok (length s)) [
      | true ↦ lines_said (looked_at (lines_of s))
      | false ↦ record { refused = too_long; line = 0; value = (no_tables, no_program) }
    ]

-- 01, the sheet: its numbers and lines as its reader gives them
unfoldable pub sheet_said : List ℕ → Said
sheet_said s = said s (sheet_read s)

-- "the row at fault": a row's line has the row's number. Of the rows a and those after them: the lines of a come first, as many as its rows, then those
-- of the others
unfoldable pub RowsKeepTheirNumbers : Type 0
RowsKeepTheirNumbers =
    (a b : List ℕ)
    → (lines_of (a ++ bytes "\n" ++ b) ≡ lines_of (a ++ bytes "\n") ++ lines_by (separator_of (unmarked a)) b)
    × (lfs (lines_of (a ++ bytes "\n")) ≡ lfs (a ++ bytes "\n"))
