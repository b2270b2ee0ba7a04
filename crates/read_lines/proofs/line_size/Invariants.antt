use Rattle.std.proofs.Common.{◌≡◌, ◌+◌, ◌-◌, length, drop}
use Rattle.read_spec.specs.Place.{up_to_lf}
use Rattle.read_lines.proofs.line_size.Given as goal

abbrev pub invariant-loop-i : goal.invariant-loop-i
invariant-loop-i l = (l.i - l.from) + length (up_to_lf (drop l.i l.s)) ≡ length (up_to_lf (drop l.at l.s))
