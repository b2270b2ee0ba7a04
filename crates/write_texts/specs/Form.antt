-- Tables and a program as a form: the lines of a sheet without those of the counts, as rows of cells. docs/FORM.md has it for setters.
use Rattle.std.specs.Prelude.{ℕ, List, ◌++◌, not, eqb}
use Rattle.item_spec.specs.Reader.{bytes}
use Rattle.item_spec.specs.Write.{only_if, in_turn}
use Rattle.model.specs.declared.Tables.{Tables}
use Rattle.model.specs.declared.Program.{Program}
use Rattle.model.specs.View.{type_of}
use Rattle.report_spec.specs.Report.{count_text}
use Rattle.write_spec.specs.Kinds.{initial_text, do_text}
use Rattle.write_spec.specs.Texts.{instruction_row}
use Rattle.read_sheet_lines.specs.declared.Rows.TheVariants.{Transitions, Behaviors, Ports}
use Rattle.form_cells.specs.Cells.{cells_of}
use Rattle.write_texts.specs.Parts.{rows_text}

-- `type=` its places, `initial=`, then its rows by kind
unfoldable pub type_lines_text : Tables → ℕ → List ℕ
type_lines_text t i = count_text (bytes "type=") (type_of t i).places ++ initial_text (type_of t i).initial

unfoldable pub type_rows_text : Tables → ℕ → List ℕ
type_rows_text t i =
    rows_text Transitions t i (type_of t i).transitions ++ rows_text Behaviors t i (type_of t i).behaviors ++ rows_text Ports t i (type_of t i).ports

-- no row stands for 1
abbrev pub edition_row : ℕ → List ℕ
edition_row e = only_if (not (eqb e 1)) (count_text (bytes "sheet=") e)

unfoldable pub form_first : ℕ → ℕ → List ℕ
form_first e d = edition_row e ++ count_text (bytes "depth=") d

unfoldable pub form_lines : Tables → Program → List ℕ
form_lines t p =
    form_first p.edition t.depth ++ in_turn (λ i. type_lines_text t i ++ type_rows_text t i) t.count
    ++ in_turn (λ j. do_text (instruction_row p j)) p.count

unfoldable pub form_text : Tables → Program → List ℕ
form_text t p = cells_of (form_lines t p)
