use mathlib.Core.Path.{refl}
use Rattle.item_spec.specs.Reader.{give}
use Rattle.passlist_spec.specs.Row.{mark_or, over, last_mark}
use Rattle.passlist_lib.proofs.Laws.{then_over, read-fault, read-then}
use Rattle.passlist_lib.proofs.cells.last_mark.Goals as goal

pub returns-in_err-mark : goal.returns-in_err-mark
unfolding last_mark
returns-in_err-mark c = rw c.from_residual.ensures (read-fault (mark_or c.args.none.now) then_over c.in_err-mark.ensures)

pub returns-in_err-next : goal.returns-in_err-next
unfolding last_mark
returns-in_err-next c =
    rw c.from_residual-in_err-next.ensures
    (read-then (mark_or c.args.none.now) then_over c.in_ok-mark.ensures (read-fault over (λ _. give _) c.in_err-next.ensures))

pub returns : goal.returns
unfolding last_mark
returns c =
    let k = c.in_ok-next.ensures in
    read-then (mark_or c.args.none.now) then_over c.in_ok-mark.ensures (read-then over (λ _. give _) k (record { within = k.within; same = refl }))
