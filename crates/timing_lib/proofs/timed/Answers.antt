use Rattle.judge_spec.specs.Judged.{after_fault}
use Rattle.timing_lib.proofs.Order.{marked-short}
use Rattle.timing_lib.proofs.Timing.{fault-answers, walk-answers}
use Rattle.timing_lib.proofs.timed.Goals as goal

pub after_walk-requires : goal.after_walk-requires
after_walk-requires c = marked-short _ _ _ _ _ (rw c.in-Ok.is at c.course.ensures)

pub returns-in-Ok : goal.returns-in-Ok
returns-in-Ok c =
    let h = c.after_walk.ensures in
    walk-answers _ _ _ c.args.report.now _ _ (rw c.in-Ok.is at c.course.ensures) (h.verdict c.args.answer.now) h.mark (h.buffer c.args.answer.now)

pub returns-in-Err : goal.returns-in-Err
unfolding after_fault
returns-in-Err c = fault-answers _ _ _ _ _ _ _ (rw c.in-Err.is at c.course.ensures) (rw (c.unmarked.ensures, c.fault_verdict.ensures))
