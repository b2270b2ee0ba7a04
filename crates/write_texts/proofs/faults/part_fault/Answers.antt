use Rattle.std.proofs.Common.{arith}
use Rattle.write_texts.specs.Parts.{part_fault}
use Rattle.write_texts.proofs.Loops.{limit-first, first-start, first-more, line-first, none-first}
use Rattle.write_texts.proofs.faults.part_fault.Goals as goal

pub returns-then-limit-ne0 : goal.returns-then-limit-ne0
unfolding part_fault
returns-then-limit-ne0 c = rw (← c.part_count-count.ensures, ← c.part_ok.ensures) (limit-first _ _ _ c.limit_fault-limit.ensures c.if-limit-ne0.true)

pub loop-i-init : goal.loop-i-init
loop-i-init c = first-start _

pub returns-then-n-ne0 : goal.returns-then-n-ne0
unfolding part_fault
returns-then-n-ne0 c =
    rw (← c.part_count-count.ensures, ← c.part_ok.ensures)
    (line-first _ c.loop-i.i _ c.loop-i.invariant (c.line_fault-n.ensures) _ _ _ c.limit_fault-limit.ensures c.if-limit-ne0.false c.loop-i-test.true c.if-n-ne0.true)

pub loop-i-preserved : goal.loop-i-preserved
loop-i-preserved c = first-more _ c.loop-i.i _ c.loop-i.invariant c.line_fault-n.ensures c.if-n-ne0.false

pub returns : goal.returns
unfolding part_fault
returns c = rw (← c.part_count-count.ensures, ← c.part_ok.ensures) (none-first _ _ _ _ c.loop-i.i c.limit_fault-limit.ensures c.if-limit-ne0.false c.loop-i.invariant (omega arith))
