use Prim.Native.Nat.{◌≤◌, ◌*◌}
use mathlib.Core.Path.{◌≡◌}
use Rattle.aeolus_model.specs.Words.{configuration_in}
use Rattle.aeolus_step.specs.Rows.{first_sizes}
use Rattle.aeolus_step.proofs.checks.bindings.Given as goal

abbrev pub invariant-loop-z : goal.invariant-loop-z
invariant-loop-z l = (l.n ≤ 512 * l.z) × (l.n ≡ first_sizes (configuration_in l.deployed) (l.z * 16))
