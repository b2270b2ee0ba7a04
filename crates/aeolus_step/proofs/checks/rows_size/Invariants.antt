use Prim.Native.Nat.{◌≤◌, ◌*◌, ◌+◌}
use mathlib.Core.Path.{◌≡◌}
use Rattle.aeolus_model.specs.Words.{configuration_in}
use Rattle.aeolus_step.specs.Rows.{first_sizes}
use Rattle.aeolus_step.proofs.checks.rows_size.Given as goal

abbrev pub invariant-loop-j : goal.invariant-loop-j
invariant-loop-j l =
    (l.n ≤ 32 * l.j) × (first_sizes (configuration_in l.deployed) (l.z * 16 + l.j) ≡ first_sizes (configuration_in l.deployed) (l.z * 16) + l.n)
