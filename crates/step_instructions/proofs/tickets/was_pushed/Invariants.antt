use Rattle.std.proofs.Common.{◌≡◌, ◌+◌}
use Rattle.rules_spec.specs.Tickets.{pushed_to, has_stamp}
use Rattle.words.specs.Words.{program_from}
use Rattle.step_instructions.proofs.tickets.was_pushed.Given as goal

abbrev pub invariant-loop-at : goal.invariant-loop-at
invariant-loop-at l = has_stamp (l.ticket + 1) (pushed_to (program_from l.program l.begun) l.i l.at) ≡ has_stamp (l.ticket + 1) (pushed_to (program_from l.program l.begun) l.i l.n)
