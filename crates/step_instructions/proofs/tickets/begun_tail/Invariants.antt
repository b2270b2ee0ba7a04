use Rattle.std.proofs.Common.{◌≡◌, ℕ, List}
use Rattle.rules_spec.specs.Tickets.{begun_to, last_stamp}
use Rattle.words.specs.Words.{program_from}
use Rattle.step_instructions.proofs.Begun.{from, last_from, slots}
use Rattle.step_instructions.proofs.tickets.begun_tail.Given as goal

abbrev pub invariant-loop-r : goal.invariant-loop-r
invariant-loop-r l = (program : List ℕ) → last_from l.last (from (slots (program_from program l.begun) l.i) l.r) ≡ last_stamp (begun_to (program_from program l.begun) l.i)
