use mathlib.Core.Path.{◌≡◌}
use native.Mathlib.Omega.{arith}
use Rattle.aeolus_step.proofs.Rows.{empty-start, empty-more}
use Rattle.aeolus_step.proofs.checks.joined_rows.Goals as goal

pub loop-j-init : goal.loop-j-init
loop-j-init c = (omega arith, λ e. empty-start _ _)

pub loop-j-preserved : goal.loop-j-preserved
loop-j-preserved c =
    let l = c.loop-j in
    (c.joined-all.type_inv, empty-more _ _ l.j l.invariant.0 c.bound_row.type_inv l.invariant.1 c.bound_row.ensures c.joined-all.ensures)

pub returns : goal.returns
returns c = let l = c.loop-j in let e : l.j ≡ 16 = omega arith in λ none. rw e at (l.invariant.1 none)
