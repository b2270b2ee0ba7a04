use mathlib.Core.Path.{◌≡◌, ap₂, ◌∙◌}
use native.Mathlib.Omega.{arith}
use Rattle.sets.specs.Mask.{joined}
use Rattle.aeolus_model.specs.Words.{configuration_in}
use Rattle.aeolus_correct.specs.Users.{targets_of}
use Rattle.aeolus_correct.proofs.Users.{targets-start, targets-more}
use Rattle.aeolus_correct.proofs.targets_of.Goals as goal

pub loop-j-init : goal.loop-j-init
loop-j-init c = targets-start (configuration_in c.args.deployed.now) c.args.y

pub loop-j-preserved : goal.loop-j-preserved
loop-j-preserved c =
    c.joined-all.ensures ∙ ap₂ joined c.loop-j.invariant c.bound_at.ensures
    ∙ targets-more (configuration_in c.args.deployed.now) c.args.y c.loop-j.j

pub returns : goal.returns
unfolding targets_of
returns c =
    let e : c.loop-j.j ≡ c.interfaces_of-n.result = omega arith in
    rw (← c.kind_of.ensures, ← c.interfaces_of-n.ensures) (rw e at c.loop-j.invariant)
