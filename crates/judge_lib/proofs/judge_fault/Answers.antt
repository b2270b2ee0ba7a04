use Rattle.judge_spec.specs.Judged.{after_fault}
use Rattle.judge_lib.proofs.judge_fault.Goals as goal

pub returns-clause-place : goal.returns-clause-place
unfolding after_fault
returns-clause-place c = rw (← c.text_of-s.ensures) c.fault_place-place.ensures
