use Rattle.aeolus_lib.proofs.Places.{as-paper}
use Rattle.aeolus_lib.proofs.judge_fault.Goals as goal

pub returns-clause-verdict : goal.returns-clause-verdict
returns-clause-verdict c = rw (← as-paper c.args.fault.text c.args.sheet.now c.args.answer.now, ← c.text_of-s.ensures) c.fault_verdict-verdict.ensures

pub returns-clause-place : goal.returns-clause-place
returns-clause-place c = rw (← as-paper c.args.fault.text c.args.sheet.now c.args.answer.now, ← c.text_of-s.ensures) c.fault_place-place.ensures
