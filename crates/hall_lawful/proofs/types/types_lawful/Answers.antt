use Rattle.sets.proofs.Laws.{all_start}
use Rattle.hall_lawful.proofs.Loops.{one-fails, one_more}
use Rattle.hall_lawful.proofs.types.types_lawful.Goals as goal

pub loop-k-init : goal.loop-k-init
loop-k-init c = all_start _

pub returns-then-not-type_lawful : goal.returns-then-not-type_lawful
returns-then-not-type_lawful c = one-fails _ c.loop-k.k _ c.type_lawful.ensures _ c.loop-k-test.true c.if-not-type_lawful.true

pub loop-k-preserved : goal.loop-k-preserved
loop-k-preserved c = one_more _ c.loop-k.k _ c.type_lawful.ensures c.loop-k.invariant c.if-not-type_lawful.false
