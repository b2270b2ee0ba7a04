use Rattle.read_items.proofs.Laws.{handed_on}
use Rattle.read_items.proofs.Limits.{form-fault, limit-fault, limit-kept}
use Rattle.aeolus_read_plan.specs.Says.{step_numbers}
use Rattle.aeolus_read_plan.proofs.step_numbers.Goals as goal

pub returns-in_err-n : goal.returns-in_err-n
unfolding step_numbers
returns-in_err-n c = rw (handed_on _ c.from_residual.ensures.1) (form-fault _ _ c.in_err-n.ensures)

pub returns-then-verb-n : goal.returns-then-verb-n
unfolding step_numbers
returns-then-verb-n c = limit-fault _ _ c.in_ok-n.ensures (rw c.if-verb-n.true)

pub returns : goal.returns
unfolding step_numbers
returns c = limit-kept _ _ c.in_ok-n.ensures (rw c.if-verb-n.false)
