use Rattle.std.proofs.Common.{◌≡◌, drop}
use Rattle.item_spec.specs.Read.{number, number_from}
use Rattle.read_items.specs.Says.{most}
use Rattle.read_items.specs.Turn.{Small}
use Rattle.read_items.proofs.number_then.Given as goal

abbrev pub invariant-loop-i : goal.invariant-loop-i
invariant-loop-i l = Small l.count l.value × (number_from (most l.digits) l.end l.count l.value (drop l.i l.s) ≡ number (most l.digits) l.end (drop l.at l.s))
