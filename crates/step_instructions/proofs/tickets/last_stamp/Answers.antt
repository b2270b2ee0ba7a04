use Rattle.std.proofs.Common.{sym, ◌∙◌, arith}
use Rattle.step_instructions.proofs.Pushes.{none_last, this-last, earlier-last, first-last}
use Rattle.step_instructions.proofs.tickets.last_stamp.Goals as goal

pub returns-then-adds : goal.returns-then-adds
returns-then-adds c = none_last _ _ _ c.loop-at-test.true _ c.instruction-line.ensures (sym c.adds.ensures ∙ c.if-adds.true) ∙ c.loop-at.invariant

pub returns-then-pushes : goal.returns-then-pushes
returns-then-pushes c =
    c.stamp_of.ensures
    ∙ this-last _ _ _ c.loop-at-test.true _ c.instruction-line.ensures (sym c.adds.ensures ∙ c.if-adds.false) (sym c.pushes.ensures ∙ c.if-pushes.true)
    ∙ c.loop-at.invariant

pub loop-at-preserved : goal.loop-at-preserved
loop-at-preserved c =
    earlier-last _ _ _ c.loop-at-test.true _ c.instruction-line.ensures (sym c.adds.ensures ∙ c.if-adds.false) (sym c.pushes.ensures ∙ c.if-pushes.false) ∙ c.loop-at.invariant

pub returns : goal.returns
returns c = c.begun_tail.ensures c.args.program.now ∙ first-last _ _ c.loop-at.at (omega arith) ∙ c.loop-at.invariant
