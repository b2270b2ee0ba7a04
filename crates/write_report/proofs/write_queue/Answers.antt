use Rattle.std.proofs.Common.{◌≡◌, arith}
use Rattle.model.specs.View.{queue_of}
use Rattle.write_items.proofs.Laws.{none, then}
use Rattle.write_report.proofs.Queue.{queue-none, queue-some, further-none, further-turn}
use Rattle.write_report.proofs.write_queue.Goals as goal

pub returns-then-n-eq0 : goal.returns-then-n-eq0
unfolding queue_of
returns-then-n-eq0 c = rw (← c.queued-n.ensures, queue-none _ _ c.if-n-eq0.true) c.write_byte.ensures

pub loop-s-init : goal.loop-s-init
loop-s-init c = rw (further-none _) (none _ _)

pub loop-s-preserved : goal.loop-s-preserved
loop-s-preserved c =
    let w = then c.loop-s.invariant (then c.write_byte-p.ensures (rw c.slot-in-loop-s.ensures at c.write_slot-p-in-loop-s.ensures)) in
    rw (further-turn _ _ c.loop-s.auto.s) w

pub returns : goal.returns
unfolding queue_of
returns c =
    let e : c.loop-s.s ≡ c.queued-n.result = omega arith in
    rw (← c.queued-n.ensures, queue-some _ _ c.if-n-eq0.false)
    (then (rw c.slot.ensures at c.write_slot-p.ensures) (rw e at c.loop-s.invariant))
