use Rattle.std.proofs.Common.{◌∙◌, arith}
use Rattle.write_texts.specs.Parts.{kind_fault}
use Rattle.write_texts.proofs.Loops.{limit-first, first-start, first-more, line-first, none-first}
use Rattle.write_texts.proofs.faults.kind_fault.Goals as goal

pub returns-then-limit-ne0 : goal.returns-then-limit-ne0
unfolding kind_fault
returns-then-limit-ne0 c = rw (← c.known_of-known.ensures, ← c.count_of-count.ensures, ← c.count_ok.ensures) (limit-first _ _ _ c.limit_fault-limit.ensures c.if-limit-ne0.true)

pub loop-x-init : goal.loop-x-init
loop-x-init c = first-start _

pub returns-then-n-ne0 : goal.returns-then-n-ne0
unfolding kind_fault
returns-then-n-ne0 c =
    rw (← c.known_of-known.ensures, ← c.count_of-count.ensures, ← c.count_ok.ensures)
    (line-first _ c.loop-x.x _ c.loop-x.invariant (c.row_fault-n.ensures ∙ rw c.row_at.ensures) _ _ _ c.limit_fault-limit.ensures c.if-limit-ne0.false c.loop-x-test.true c.if-n-ne0.true)

pub loop-x-preserved : goal.loop-x-preserved
loop-x-preserved c = first-more _ c.loop-x.x _ c.loop-x.invariant (c.row_fault-n.ensures ∙ rw c.row_at.ensures) c.if-n-ne0.false

pub returns : goal.returns
unfolding kind_fault
returns c = rw (← c.known_of-known.ensures, ← c.count_of-count.ensures, ← c.count_ok.ensures) (none-first _ _ _ _ c.loop-x.x c.limit_fault-limit.ensures c.if-limit-ne0.false c.loop-x.invariant (omega arith))
