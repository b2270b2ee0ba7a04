-- The texts by their layout: a sheet, or the lines of a form.
use Rattle.std.specs.Prelude.{ℕ, List, ◌++◌}
use Rattle.item_spec.specs.Write.{in_turn}
use Rattle.model.specs.declared.Tables.{Tables}
use Rattle.model.specs.declared.Program.{Program}
use Rattle.report_spec.specs.Report.{count_text}
use Rattle.write_spec.specs.Kinds.{do_text}
use Rattle.write_spec.specs.Texts.{instruction_row, type_text, sheet_text}
use Rattle.write_texts.specs.declared.parts.Layout.{Layout}
use Rattle.write_texts.specs.declared.parts.Layout.TheVariants.{Sheet, Form}
use Rattle.write_texts.specs.declared.parts.Part.{Part}
use Rattle.write_texts.specs.declared.parts.Part.TheVariants.{Types, Instructions}
use Rattle.write_texts.specs.Parts.{part_count}
use Rattle.write_texts.specs.Form.{type_lines_text, type_rows_text, form_lines}

-- type i
abbrev pub type_as : Layout → Tables → ℕ → List ℕ
type_as Sheet t i = type_text t i
type_as Form t i = type_lines_text t i ++ type_rows_text t i

-- line i of a part; a part of a sheet, after the line of its count; the whole
abbrev pub line_as : Layout → Part → Tables → Program → ℕ → List ℕ
line_as l Types t p i = type_as l t i
line_as l Instructions t p i = do_text (instruction_row p i)

unfoldable pub part_text : List ℕ → Part → Tables → Program → List ℕ
part_text key k t p = count_text key (part_count k t p) ++ in_turn (line_as Sheet k t p) (part_count k t p)

abbrev pub text_as : Layout → Tables → Program → List ℕ
text_as Sheet t p = sheet_text t p
text_as Form t p = form_lines t p
