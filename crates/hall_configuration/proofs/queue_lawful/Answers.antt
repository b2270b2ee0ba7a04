use Rattle.std.proofs.Common.{arith}
use borrow.Author.Tests.{lt-leb, le-leb}
use Rattle.sets.proofs.Laws.{all_start}
use Rattle.hall_lawful.proofs.Loops.{one-fails, one_more, all-passed}
use Rattle.hall_configuration.proofs.queue_lawful.Goals as goal

pub returns-then-depth_of-n : goal.returns-then-depth_of-n
returns-then-depth_of-n c = rw (← c.queued-n.ensures, ← c.depth_of.ensures, lt-leb _ _ c.if-depth_of-n.true)

pub loop-r-init : goal.loop-r-init
loop-r-init c = all_start _

pub returns-then-not-queued_lawful : goal.returns-then-not-queued_lawful
returns-then-not-queued_lawful c =
    rw (← c.queued-n.ensures, ← c.depth_of.ensures, le-leb _ _ c.if-depth_of-n.false)
    (one-fails _ c.loop-r.r _ c.queued_lawful.ensures _ c.loop-r-test.true c.if-not-queued_lawful.true)

pub loop-r-preserved : goal.loop-r-preserved
loop-r-preserved c = one_more _ c.loop-r.r _ c.queued_lawful.ensures c.loop-r.invariant c.if-not-queued_lawful.false

pub returns : goal.returns
returns c =
    rw (← c.queued-n.ensures, ← c.depth_of.ensures, le-leb _ _ c.if-depth_of-n.false) (all-passed _ _ c.loop-r.r c.loop-r.invariant (omega arith))
