-- Those free below s are counted.
use Rattle.std.proofs.Common.{◌≡◌, ◌≤◌}
use mathlib.Core.Bool.{not}
use Rattle.sets.specs.Test.{tally}
use Rattle.model.specs.View.{is_served}
use Rattle.words.specs.Words.{state_in}
use Rattle.words.proofs.state.entries.Given as goal

abbrev pub invariant-loop-s : goal.invariant-loop-s
invariant-loop-s l = record {
  few : l.free ≤ l.s;
  counted : l.free ≡ tally l.s (λ n. not (is_served (state_in l.state).servers n));
}
