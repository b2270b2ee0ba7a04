use Rattle.std.proofs.Common.{◌≤◌}
use Rattle.model_walk_tests.proofs.as_found.Given as goal

abbrev pub invariant-loop-b : goal.invariant-loop-b
invariant-loop-b l = l.n ≤ l.b-index
