use Rattle.std.proofs.Common.{arith}
use borrow.Author.Tests.{lt-leb, le-leb}
use Rattle.sets.proofs.Laws.{all_start}
use Rattle.hall_lawful.proofs.Loops.{one-fails, one_more, all-passed}
use Rattle.hall_lawful.proofs.types.parts_lawful.Goals as goal

pub returns-then-limit-n : goal.returns-then-limit-n
returns-then-limit-n c = rw (lt-leb _ _ c.if-limit-n.true)

pub loop-x-init : goal.loop-x-init
loop-x-init c = all_start _

pub returns-then-not-part_lawful : goal.returns-then-not-part_lawful
returns-then-not-part_lawful c =
    rw (le-leb _ _ c.if-limit-n.false) (one-fails _ c.loop-x.x _ c.part_lawful.ensures _ c.loop-x-test.true c.if-not-part_lawful.true)

pub loop-x-preserved : goal.loop-x-preserved
loop-x-preserved c = one_more _ c.loop-x.x _ c.part_lawful.ensures c.loop-x.invariant c.if-not-part_lawful.false

pub returns : goal.returns
returns c = rw (le-leb _ _ c.if-limit-n.false) (all-passed _ _ c.loop-x.x c.loop-x.invariant (omega arith))
