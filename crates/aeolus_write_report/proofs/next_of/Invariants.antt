use Prim.Native.Nat.{◌<◌}
use mathlib.Core.Path.{◌≡◌}
use Rattle.aeolus_model.specs.Words.{universe_in, configuration_in}
use Rattle.aeolus_write_report.specs.Names.{Next}
use Rattle.aeolus_write_report.proofs.next_of.Given as goal

abbrev pub invariant-loop-j : goal.invariant-loop-j
invariant-loop-j l = Next (universe_in l.universe) (configuration_in l.deployed) l.from l.best l.next (λ y i. (y ≡ l.z) × (i < l.j))
