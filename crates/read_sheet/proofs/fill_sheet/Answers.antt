use mathlib.Core.Path.{◌∙◌}
use Rattle.model.specs.Empty.{no_tables, no_program}
use Rattle.read_spec.specs.Texts.{sheet}
use Rattle.read_chain.proofs.Chain.{came-kept}
use Rattle.read_sheet.proofs.fill_sheet.Goals as goal

pub returns : goal.returns
returns c = c.handed_out.ensures ∙ came-kept (no_tables, no_program) sheet _ _ _ c.read_lines-read.ensures
