use Rattle.std.proofs.Common.{◌≡◌, ◌-◌, length, drop}
use Rattle.item_spec.specs.Items.{items_in, items}
use Rattle.read_start.specs.Items.{item_in}
use Rattle.read_start.proofs.Queues.{SoFar}
use Rattle.read_start.proofs.items.items_then.Given as goal

abbrev pub invariant-loop-i : goal.invariant-loop-i
invariant-loop-i l =
    SoFar l.tickets l.end l.s l.at l.i l.n l.slots
    × (items (item_in l.tickets) l.end (drop l.at l.s) ≡ items_in (length (drop l.at l.s)) (item_in l.tickets) l.end (drop l.at l.s))

abbrev pub decreases-loop-i : goal.decreases-loop-i
decreases-loop-i l = length l.s - l.i
