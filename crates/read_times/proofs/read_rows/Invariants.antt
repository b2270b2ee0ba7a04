use Prim.Native.Nat.{ℕ}
use Rattle.read_lines.proofs.Runs.{Upto}
use Rattle.times_spec.specs.Text.{time}
use Rattle.read_times.specs.Says.{filled}
use Rattle.read_times.proofs.read_rows.Given as goal

-- the arrays hold what the rows so far give, whatever the par is
abbrev pub invariant-loop-row : goal.invariant-loop-row
invariant-loop-row l =
    (par : ℕ) → Upto time l.count 0 (filled par l.initial.listed l.initial.seconds) l.text l.start l._row l.at (filled par l.listed l.seconds)
