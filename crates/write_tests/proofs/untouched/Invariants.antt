use Rattle.std.proofs.Common.{◌≤◌}
use Rattle.write_tests.proofs.untouched.Given as goal

abbrev pub invariant-loop-b : goal.invariant-loop-b
invariant-loop-b l = l.n ≤ l.b-index
