use mathlib.Core.Path.{refl}
use Rattle.read_items.proofs.Limits.{form-fault, form-then, limit-kept}
use Rattle.read_start.specs.Says.{row_form}
use Rattle.read_start.proofs.rows.row_form.Goals as goal

pub returns-in_err-i : goal.returns-in_err-i
unfolding row_form
returns-in_err-i c = rw c.from_residual.ensures (form-fault _ _ c.in_err-i.ensures)

pub returns-in_err-id : goal.returns-in_err-id
unfolding row_form
returns-in_err-id c = rw c.from_residual-in_err-id.ensures (form-then _ _ c.in_ok-i.ensures (form-fault _ _ c.in_err-id.ensures))

pub returns-in_err-kind : goal.returns-in_err-kind
unfolding row_form
returns-in_err-kind c =
    rw c.from_residual-in_err-kind.ensures
    (form-then _ _ c.in_ok-i.ensures (form-then _ _ c.in_ok-id.ensures (form-fault _ _ c.in_err-kind.ensures)))

pub returns-in_err-lists : goal.returns-in_err-lists
unfolding row_form
returns-in_err-lists c =
    rw c.from_residual-in_err-lists.ensures
    (form-then _ _ c.in_ok-i.ensures (form-then _ _ c.in_ok-id.ensures (form-then _ _ c.in_ok-kind.ensures (form-fault _ _ c.in_err-lists.ensures))))

pub returns : goal.returns
unfolding row_form
returns c =
    form-then _ _ c.in_ok-i.ensures (form-then _ _ c.in_ok-id.ensures (form-then _ _ c.in_ok-kind.ensures (limit-kept _ _ c.in_ok-lists.ensures refl)))
