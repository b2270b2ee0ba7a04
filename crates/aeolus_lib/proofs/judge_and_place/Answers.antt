use Rattle.std.proofs.Common.{sym}
use Rattle.aeolus_judge_spec.proofs.Room.{read_fits}
use Rattle.aeolus_lib.proofs.Judgement.{fault-promised, run-promised}
use Rattle.aeolus_lib.proofs.judge_and_place.Goals as goal

pub judge_run-requires : goal.judge_run-requires
judge_run-requires c = let h = read_fits _ _ _ _ (sym (rw c.in-Ok.is at c.run_texts.ensures)) in (h.short, h.small)

pub returns-in-Ok : goal.returns-in-Ok
returns-in-Ok c = run-promised _ _ c.args.report.now _ _ (rw c.in-Ok.is at c.run_texts.ensures) c.judge_run.ensures

pub returns-in-Err : goal.returns-in-Err
returns-in-Err c = fault-promised _ _ _ _ _ _ (rw c.in-Err.is at c.run_texts.ensures) c.judge_fault.ensures.verdict c.judge_fault.ensures.place
