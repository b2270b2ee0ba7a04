use Rattle.std.proofs.Common.{◌∙◌, arith}
use Rattle.write_spec.specs.Texts.{answer_fault}
use Rattle.write_texts.proofs.Loops.{limit-first, first-start, first-more, line-first, none-first}
use Rattle.write_texts.proofs.faults.answer_fault.Goals as goal

pub returns-then-limit-ne0 : goal.returns-then-limit-ne0
unfolding answer_fault
returns-then-limit-ne0 c = rw (← c.steps-count.ensures) (limit-first _ _ _ c.limit_fault-limit.ensures c.if-limit-ne0.true)

pub loop-j-init : goal.loop-j-init
loop-j-init c = first-start _

pub returns-then-n-ne0 : goal.returns-then-n-ne0
unfolding answer_fault
returns-then-n-ne0 c =
    rw (← c.steps-count.ensures)
    (line-first _ c.loop-j.j _ c.loop-j.invariant (c.step_fault-n.ensures ∙ rw c.step_at.ensures) _ _ _ c.limit_fault-limit.ensures c.if-limit-ne0.false c.loop-j-test.true c.if-n-ne0.true)

pub loop-j-preserved : goal.loop-j-preserved
loop-j-preserved c = first-more _ c.loop-j.j _ c.loop-j.invariant (c.step_fault-n.ensures ∙ rw c.step_at.ensures) c.if-n-ne0.false

pub returns : goal.returns
unfolding answer_fault
returns c = rw (← c.steps-count.ensures) (none-first _ _ _ _ c.loop-j.j c.limit_fault-limit.ensures c.if-limit-ne0.false c.loop-j.invariant (omega arith))
