-- The first i instances are by their names.
use Rattle.std.proofs.Common.{◌≡◌}
use Rattle.words.specs.Words.{state_in}
use Rattle.foretell_lib.specs.Quiet.{quiet_below}
use Rattle.foretell_lib.proofs.names.quiet_all.Given as goal

abbrev pub invariant-loop-i : goal.invariant-loop-i
invariant-loop-i l = state_in l.state ≡ quiet_below l.i (state_in l.initial.state)
