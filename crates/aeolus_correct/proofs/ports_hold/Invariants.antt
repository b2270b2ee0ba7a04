use mathlib.Core.Path.{◌≡◌}
use mathlib.Core.Bool.{true}
use Rattle.sets.specs.Test.{all_below}
use Rattle.aeolus_model.specs.Words.{universe_in, configuration_in}
use Rattle.aeolus_rules_spec.specs.Correct.{port_holds}
use Rattle.aeolus_correct.proofs.ports_hold.Given as goal

abbrev pub invariant-loop-j : goal.invariant-loop-j
invariant-loop-j l = all_below l.j (port_holds (universe_in l.universe) (configuration_in l.deployed) l.m l.z) ≡ true
