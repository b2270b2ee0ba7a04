use Rattle.std.proofs.Common.{◌≡◌, take}
use Prim.Native.Nat.{suc}
use Rattle.read_spec.specs.Place.{lfs}
use Rattle.read_lines.proofs.line_number.Given as goal

abbrev pub invariant-loop-byte : goal.invariant-loop-byte
invariant-loop-byte l = l.number ≡ suc (lfs (take l.byte-index l.before))
