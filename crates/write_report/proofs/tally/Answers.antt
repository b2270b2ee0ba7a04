use Rattle.std.proofs.Common.{arith, sym, ◌∙◌}
use Rattle.sets.proofs.Laws.{tally-start, tally-in, tally-out}
use Rattle.write_report.proofs.tally.Goals as goal
use Rattle.write_report.proofs.tally.Goals.{then-present, else-present}

pub loop-i-init : goal.loop-i-init
loop-i-init c = (omega arith, sym (tally-start _))

pub loop-i-preserved : goal.loop-i-preserved
loop-i-preserved c =
    let here = sym c.present.ensures in
    elim c.if-present.branch [
      | then-present w ↦ (omega arith, w.n-is ∙ rw c.loop-i.invariant.1 (sym (tally-in _ _ (here ∙ w.if-present.true))))
      | else-present w ↦ (omega arith, w.n-is ∙ rw c.loop-i.invariant.1 (sym (tally-out _ _ (here ∙ w.if-present.false))))
    ]
