use Rattle.read_lines.proofs.Runs.{Upto}
use Rattle.aeolus_model.specs.Words.{plan_in}
use Rattle.aeolus_read_spec.specs.Texts.{step_at}
use Rattle.aeolus_read_plan.proofs.read_steps.Given as goal

-- i steps have been read
abbrev pub invariant-loop-i : goal.invariant-loop-i
invariant-loop-i l = Upto (step_at l.types) l.count 0 (plan_in l.initial.words) l.text l.start l.i l.at (plan_in l.words)
