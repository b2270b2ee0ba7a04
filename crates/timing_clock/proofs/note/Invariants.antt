-- The transitions below x are noted.
use Rattle.std.proofs.Common.{◌≡◌}
use Rattle.timing_spec.specs.Clock.{notes}
use Rattle.timing_clock.proofs.note.Given as goal

abbrev pub invariant-loop-x : goal.invariant-loop-x
invariant-loop-x l = l.noted ≡ notes l.clock l.id l.xs l.x l.initial.noted
