use Rattle.read_spec.specs.Texts.{step_at}
use Rattle.read_lines.proofs.Runs.{Upto}
use Rattle.words.specs.Words.{answer_in}
use Rattle.read_answer.proofs.read_steps.Given as goal

-- so many steps have been read
abbrev pub invariant-loop-i : goal.invariant-loop-i
invariant-loop-i l = Upto step_at l.count 0 (answer_in l.initial.answer) l.text l.start l.i l.at (answer_in l.answer)
