use mathlib.Core.Path.{◌∙◌}
use Rattle.model.specs.Empty.{no_tables, no_program}
use Rattle.read_chain.proofs.Chain.{came-kept}
use Rattle.read_sheet.specs.Form.{form}
use Rattle.read_sheet.proofs.fill_form.Goals as goal

pub returns : goal.returns
returns c = c.handed_out.ensures ∙ came-kept (no_tables, no_program) form _ _ _ c.read_rows-read.ensures
