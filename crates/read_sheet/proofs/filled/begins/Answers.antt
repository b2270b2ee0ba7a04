use mathlib.Core.Path.{◌∙◌}
use Rattle.read_sheet.proofs.Forms.{begun-some}
use Rattle.read_sheet.proofs.filled.begins.Goals as goal

pub returns : goal.returns
returns c = c.is_some.ensures ∙ begun-some _ _ _ _ c.past_key.ensures
