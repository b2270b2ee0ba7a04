use Rattle.std.proofs.Common.{◌≡◌, drop}
use Rattle.item_spec.specs.Read.{members_from}
use Rattle.read_items.specs.Says.{most}
use Rattle.read_items.specs.Turn.{Small, members_on}
use Rattle.read_items.proofs.members_then.Given as goal

abbrev pub invariant-loop-i : goal.invariant-loop-i
invariant-loop-i l =
    Small l.f.count l.f.value × (members_on (most l.digits) l.end l.f (drop l.i l.s) ≡ members_from (most l.digits) l.end 0 0 0 0 (drop l.at l.s))
