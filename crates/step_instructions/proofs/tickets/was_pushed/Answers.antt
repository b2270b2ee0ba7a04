use Rattle.std.proofs.Common.{sym, ◌∙◌, arith}
use Rattle.step_instructions.proofs.Pushes.{none_made, this-made, earlier-made, first_made}
use Rattle.step_instructions.proofs.tickets.was_pushed.Goals as goal

pub returns-then-adds : goal.returns-then-adds
returns-then-adds c = none_made _ _ _ _ c.loop-at-test.true _ c.instruction-line.ensures (sym c.adds.ensures ∙ c.if-adds.true) ∙ c.loop-at.invariant

pub returns-then-pushes-stamp_of : goal.returns-then-pushes-stamp_of
returns-then-pushes-stamp_of c =
    this-made _ _ _ _ c.loop-at-test.true _ c.instruction-line.ensures (sym c.adds.ensures ∙ c.if-adds.false) _ c.stamp_of.ensures (rw (← c.pushes.ensures) c.if-pushes-stamp_of.true) ∙ c.loop-at.invariant

pub loop-at-preserved : goal.loop-at-preserved
loop-at-preserved c =
    earlier-made _ _ _ _ c.loop-at-test.true _ c.instruction-line.ensures (sym c.adds.ensures ∙ c.if-adds.false) _ c.stamp_of.ensures (rw (← c.pushes.ensures) c.if-pushes-stamp_of.false) ∙ c.loop-at.invariant

pub returns : goal.returns
returns c = c.begun_with.ensures _ ∙ first_made _ _ c.loop-at.at _ (omega arith) ∙ c.loop-at.invariant
