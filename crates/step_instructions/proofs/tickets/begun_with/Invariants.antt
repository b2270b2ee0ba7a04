use Rattle.std.proofs.Common.{◌≡◌, ℕ, List, ◌+◌}
use Rattle.rules_spec.specs.Tickets.{begun_to, has_stamp}
use Rattle.words.specs.Words.{program_from}
use Rattle.step_instructions.proofs.Begun.{from, slots}
use Rattle.step_instructions.proofs.tickets.begun_with.Given as goal

abbrev pub invariant-loop-r : goal.invariant-loop-r
invariant-loop-r l =
    (program : List ℕ)
    → has_stamp (l.ticket + 1) (from (slots (program_from program l.begun) l.i) l.r) ≡ has_stamp (l.ticket + 1) (begun_to (program_from program l.begun) l.i)
