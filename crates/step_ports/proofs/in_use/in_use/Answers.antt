use Rattle.std.proofs.Common.{◌≡◌, ◌∙◌, arith}
use Rattle.step_ports.proofs.InUse.{in-use-start, in-use-more, in-use-end}
use Rattle.step_ports.proofs.in_use.in_use.Goals as goal

pub loop-u-init : goal.loop-u-init
loop-u-init c = in-use-start _ _ _

pub loop-u-preserved : goal.loop-u-preserved
loop-u-preserved c = let l = c.loop-u in c.with_user-all.ensures ∙ in-use-more _ _ _ l.u l.all l.invariant

pub returns : goal.returns
returns c =
    let l = c.loop-u in
    let e : l.u ≡ 32 = omega arith in
    (rw e at l.invariant) ∙ in-use-end _ _ _
