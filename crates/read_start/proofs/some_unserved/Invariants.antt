use Rattle.std.proofs.Common.{◌≡◌}
use mathlib.Core.Bool.{false}
use Rattle.sets.specs.Test.{any_below}
use Rattle.start_spec.specs.Served.{fails_still}
use Rattle.words.specs.Words.{tables_in, state_in}
use Rattle.read_start.proofs.some_unserved.Given as goal

abbrev pub invariant-loop-i : goal.invariant-loop-i
invariant-loop-i l = any_below l.i (fails_still (tables_in l.tables) (state_in l.state)) ≡ false
