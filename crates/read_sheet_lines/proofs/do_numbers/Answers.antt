use mathlib.Core.Path.{refl}
use Rattle.read_items.proofs.Laws.{handed_on}
use Rattle.read_items.proofs.Limits.{form-fault, limit-kept}
use Rattle.read_sheet_lines.specs.Says.{do_numbers}
use Rattle.read_sheet_lines.proofs.do_numbers.Goals as goal

pub returns-in_err-n : goal.returns-in_err-n
unfolding do_numbers
returns-in_err-n c = rw (handed_on _ c.from_residual.ensures.1) (form-fault _ _ c.in_err-n.ensures)

pub returns : goal.returns
unfolding do_numbers
returns c = limit-kept _ _ c.in_ok-n.ensures refl
