use Rattle.std.proofs.Common.{◌≡◌, ◌-◌, ◌≤◌}
use Rattle.model.specs.View.{with_queue}
use Rattle.words.specs.Words.{state_in}
use Rattle.rules_spec.specs.Closing.{down}
use Rattle.step_moves.proofs.close_slots.Given as goal

abbrev pub invariant-loop-to : goal.invariant-loop-to
invariant-loop-to l = record {
  within : l.to - l.at ≤ l.last - l.at;
  moved : state_in l.state ≡ with_queue (state_in l.initial.state) (down 0 (state_in l.initial.state).queue l.at (l.to - l.at));
}
