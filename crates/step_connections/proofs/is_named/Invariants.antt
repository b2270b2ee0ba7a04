use Rattle.std.proofs.Common.{◌≡◌, ◌&&◌}
use Rattle.sets.specs.Test.{any_below}
use Rattle.model.specs.View.{is_served, connection_at}
use Rattle.rules_spec.specs.Del.{named_by}
use Rattle.words.specs.Words.{state_in}
use Rattle.step_connections.proofs.is_named.Given as goal

abbrev pub invariant-loop-s : goal.invariant-loop-s
invariant-loop-s l = l.found ≡ any_below l.s (λ n. named_by l.i (connection_at (state_in l.state).servers n) && is_served (state_in l.state).servers n)
