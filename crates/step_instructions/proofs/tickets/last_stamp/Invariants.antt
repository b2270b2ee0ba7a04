use Rattle.std.proofs.Common.{◌≡◌}
use Rattle.rules_spec.specs.Tickets.{pushed_to, last_stamp}
use Rattle.words.specs.Words.{program_from}
use Rattle.step_instructions.proofs.tickets.last_stamp.Given as goal

abbrev pub invariant-loop-at : goal.invariant-loop-at
invariant-loop-at l = last_stamp (pushed_to (program_from l.program l.begun) l.i l.at) ≡ last_stamp (pushed_to (program_from l.program l.begun) l.i l.n)
