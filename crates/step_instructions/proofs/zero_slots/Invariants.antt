use Rattle.std.proofs.Common.{◌≡◌}
use Rattle.model.specs.View.{with_queue}
use Rattle.words.specs.Words.{state_in}
use Rattle.rules_spec.specs.Closing.{zeroed}
use Rattle.step_instructions.proofs.zero_slots.Given as goal

abbrev pub invariant-loop-r : goal.invariant-loop-r
invariant-loop-r l = state_in l.state ≡ with_queue (state_in l.initial.state) (zeroed (state_in l.initial.state).queue l.at l.r)
