use Rattle.std.proofs.Common.{◌≡◌, ◌+◌, ◌≤◌, length, drop}
use Rattle.item_spec.specs.Read.{key}
use Rattle.read_items.proofs.past_key.Given as goal

-- as many bytes are left of the text as of the key, or more
abbrev pub invariant-loop-j : goal.invariant-loop-j
invariant-loop-j l = (l.i + length l.due ≤ length l.s) × (key (drop l.j l.due) (drop (l.i + l.j) l.s) ≡ key l.due (drop l.at l.s))
