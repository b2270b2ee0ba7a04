use Prim.Native.Nat.{◌<◌, ◌^◌}
use mathlib.Core.Path.{◌≡◌}
use Rattle.aeolus_model.specs.Words.{configuration_in}
use Rattle.aeolus_step.specs.Rows.{EmptyRows}
use Rattle.aeolus_step.proofs.checks.joined_rows.Given as goal

abbrev pub invariant-loop-j : goal.invariant-loop-j
invariant-loop-j l = (l.all < 2 ^ 32) × (l.all ≡ 0 → EmptyRows (configuration_in l.deployed) l.z l.j)
