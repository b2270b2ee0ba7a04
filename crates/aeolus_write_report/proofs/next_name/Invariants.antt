use Prim.Native.Nat.{◌<◌}
use Rattle.aeolus_model.specs.Words.{universe_in, configuration_in}
use Rattle.aeolus_write_report.specs.Names.{InUse, Next}
use Rattle.aeolus_write_report.proofs.next_name.Given as goal

abbrev pub invariant-loop-z : goal.invariant-loop-z
invariant-loop-z l =
    Next (universe_in l.universe) (configuration_in l.deployed) l.from 256 l.next
    (λ y i. (y < l.z) × InUse (universe_in l.universe) (configuration_in l.deployed) y i)
