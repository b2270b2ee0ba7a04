use Rattle.std.proofs.Common.{◌≡◌, refl, add-one, arith}
use Rattle.sets.specs.Test.{any_below}
use Rattle.rules_spec.specs.Standing.{in_table}
use Rattle.step_connections.proofs.is_named.Goals as goal

pub loop-s-init : goal.loop-s-init
unfolding any_below
loop-s-init c = refl

pub loop-s-preserved : goal.loop-s-preserved
unfolding any_below
loop-s-preserved c = let l = c.loop-s in rw (l.invariant, c.names-found.ensures, add-one l.s)

pub returns : goal.returns
unfolding in_table
returns c = let e : c.loop-s.s ≡ 512 = omega arith in rw e at c.loop-s.invariant
