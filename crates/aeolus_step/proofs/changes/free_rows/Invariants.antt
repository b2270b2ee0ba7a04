use mathlib.Core.Path.{◌≡◌}
use Rattle.aeolus_model.specs.Words.{configuration_in}
use Rattle.aeolus_step.specs.Freed.{with_rows}
use Rattle.aeolus_step.proofs.Rows.{turned}
use Rattle.aeolus_step.proofs.changes.free_rows.Given as goal

abbrev pub invariant-loop-n : goal.invariant-loop-n
invariant-loop-n l = configuration_in l.deployed ≡ with_rows (configuration_in l.initial.deployed) (turned l.z (configuration_in l.initial.deployed).bound l.n)
