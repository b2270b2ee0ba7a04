use Rattle.sets.proofs.Laws.{all_start}
use Rattle.hall_lawful.proofs.Loops.{one-fails, one_more}
use Rattle.hall_configuration.proofs.instances_lawful.Goals as goal

pub loop-i-init : goal.loop-i-init
loop-i-init c = all_start _

pub returns-then-not-instance_lawful : goal.returns-then-not-instance_lawful
returns-then-not-instance_lawful c = one-fails _ c.loop-i.i _ c.instance_lawful.ensures _ c.loop-i-test.true c.if-not-instance_lawful.true

pub loop-i-preserved : goal.loop-i-preserved
loop-i-preserved c = one_more _ c.loop-i.i _ c.instance_lawful.ensures c.loop-i.invariant c.if-not-instance_lawful.false
