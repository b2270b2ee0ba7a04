use Rattle.std.proofs.Common.{◌≡◌, ◌≤◌, drop}
use Rattle.program_input.specs.Last.{last_from, last_part}
use Rattle.program_input.proofs.base_from.Given as goal

-- read from here on, the rest has the path's last part
abbrev pub invariant-loop-i : goal.invariant-loop-i
invariant-loop-i l = (l.from ≤ l.i) × (last_from (drop l.from l.path) (drop l.i l.path) ≡ last_part l.path)
