use mathlib.Core.Path.{refl}
use Rattle.read_items.proofs.Limits.{form-fault, form-then, limit-kept}
use Rattle.read_start.specs.Says.{three_form}
use Rattle.read_start.proofs.rows.three_lists.Goals as goal

pub returns-in_err-marked : goal.returns-in_err-marked
unfolding three_form
returns-in_err-marked c = rw c.from_residual.ensures (form-fault _ _ c.in_err-marked.ensures)

pub returns-in_err-running : goal.returns-in_err-running
unfolding three_form
returns-in_err-running c =
    rw c.from_residual-in_err-running.ensures (form-then _ _ c.in_ok-marked.ensures (form-fault _ _ c.in_err-running.ensures))

pub returns-in_err-ended : goal.returns-in_err-ended
unfolding three_form
returns-in_err-ended c =
    rw c.from_residual-in_err-ended.ensures
    (form-then _ _ c.in_ok-marked.ensures (form-then _ _ c.in_ok-running.ensures (form-fault _ _ c.in_err-ended.ensures)))

pub returns : goal.returns
unfolding three_form
returns c = form-then _ _ c.in_ok-marked.ensures (form-then _ _ c.in_ok-running.ensures (limit-kept _ _ c.in_ok-ended.ensures refl))
