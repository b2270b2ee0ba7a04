use Rattle.std.proofs.Common.{◌≡◌, ◌-◌, drop}
use Rattle.start_spec.specs.Row.{rises_to}
use Rattle.read_start.specs.Items.{queue_in}
use Rattle.read_start.proofs.items.rises_to.Given as goal

abbrev pub invariant-loop-r : goal.invariant-loop-r
invariant-loop-r l = rises_to l.last (drop (l.r - 1) (queue_in l.slots l.count)) ≡ rises_to l.last (queue_in l.slots l.count)
