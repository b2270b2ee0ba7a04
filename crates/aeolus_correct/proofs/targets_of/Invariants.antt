-- The targets of the first j interfaces are gathered.
use mathlib.Core.Path.{◌≡◌}
use Rattle.aeolus_model.specs.Words.{configuration_in}
use Rattle.aeolus_correct.proofs.Users.{first_targets}
use Rattle.aeolus_correct.proofs.targets_of.Given as goal

abbrev pub invariant-loop-j : goal.invariant-loop-j
invariant-loop-j l = l.all ≡ first_targets (configuration_in l.deployed) l.y l.j
