-- The first n slots are 0.
use Rattle.std.proofs.Common.{◌≡◌}
use Rattle.model.specs.View.{with_queue}
use Rattle.rules_spec.specs.Closing.{zeroed}
use Rattle.words.specs.Words.{state_in}
use Rattle.foretell_lib.proofs.names.zero_queues.Given as goal

abbrev pub invariant-loop-n : goal.invariant-loop-n
invariant-loop-n l = state_in l.state ≡ with_queue (state_in l.initial.state) (zeroed (state_in l.initial.state).queue 0 l.n)
