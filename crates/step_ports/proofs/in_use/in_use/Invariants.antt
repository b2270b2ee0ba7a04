-- What users below u employ is in the set.
use Rattle.std.proofs.Common.{◌≡◌}
use Rattle.words.specs.Words.{tables_in, state_in}
use Rattle.step_ports.proofs.InUse.{employed_below}
use Rattle.step_ports.proofs.in_use.in_use.Given as goal

abbrev pub invariant-loop-u : goal.invariant-loop-u
invariant-loop-u l = l.all ≡ employed_below (tables_in l.tables) (state_in l.state) l.i l.u
