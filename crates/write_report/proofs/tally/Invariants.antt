-- The instances below i are counted.
use Rattle.std.proofs.Common.{◌≡◌, ◌≤◌}
use Rattle.model.specs.View.{instance}
use Rattle.sets.specs.Test.{tally}
use Rattle.words.specs.Words.{state_in}
use Rattle.write_report.proofs.tally.Given as goal

abbrev pub invariant-loop-i : goal.invariant-loop-i
invariant-loop-i l = (l.n ≤ l.i) × (l.n ≡ tally l.i (λ k. (instance (state_in l.state) k).present))
