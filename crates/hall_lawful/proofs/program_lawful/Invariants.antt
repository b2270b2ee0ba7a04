-- The instructions below j are lawful.
use Rattle.std.proofs.Common.{get_or}
use Rattle.model.specs.Empty.{no_instruction}
use Rattle.words.specs.Words.{program_in}
use Rattle.read_spec.specs.Lawful.{instruction_lawful}
use Rattle.hall_lawful.proofs.Loops.{Passed}
use Rattle.hall_lawful.proofs.program_lawful.Given as goal

abbrev pub invariant-loop-j : goal.invariant-loop-j
invariant-loop-j l = Passed (λ x. instruction_lawful 1 l.n (get_or (program_in l.program).instructions x no_instruction)) l.j
