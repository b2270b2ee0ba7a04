use Rattle.std.proofs.Common.{◌≡◌, ◌+◌, drop}
use Rattle.read_spec.specs.Place.{line_start}
use Rattle.read_lines.proofs.line_start.Given as goal

abbrev pub invariant-loop-i : goal.invariant-loop-i
invariant-loop-i l = l.i + line_start l.left (drop l.i l.s) ≡ line_start l.lines l.s
