use Rattle.std.proofs.Common.{◌≡◌, ◌+◌, get_or}
use mathlib.Core.Bool.{true, ◌&&◌}
use lib.Dec.{ltb}
use Rattle.sets.specs.Test.{all_below}
use Rattle.start_spec.specs.Row.{stamp_ok}
use Rattle.read_start.proofs.items.items_ok.Given as goal

abbrev pub invariant-loop-r : goal.invariant-loop-r
invariant-loop-r l = all_below l.r (λ x. ltb (get_or l.slots x 0) l.n && stamp_ok (get_or l.slots (8 + x) 0)) ≡ true
