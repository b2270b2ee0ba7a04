-- The steps below j have no number.
use Rattle.std.proofs.Common.{◌≡◌}
use Rattle.words.specs.Words.{answer_in}
use Rattle.write_spec.specs.Kinds.{step_fault}
use Rattle.write_spec.specs.Texts.{first_of, step_row}
use Rattle.write_texts.proofs.faults.answer_fault.Given as goal

abbrev pub invariant-loop-j : goal.invariant-loop-j
invariant-loop-j l = first_of (λ j. step_fault (step_row (answer_in l.answer) j)) l.j ≡ 0
