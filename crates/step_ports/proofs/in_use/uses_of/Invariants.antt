-- The use ports below q are gathered.
use Rattle.std.proofs.Common.{◌≡◌, ◌+◌}
use Rattle.sets.specs.Mask.{collect}
use Rattle.model.specs.View.{port_number}
use Rattle.words.specs.Words.{state_in}
use Rattle.step_ports.specs.InUse.{served_by, higher}
use Rattle.step_ports.proofs.in_use.uses_of.Given as goal

abbrev pub invariant-loop-q : goal.invariant-loop-q
invariant-loop-q l = l.ports ≡ collect (l.q + 1) (higher (λ r. served_by (state_in l.state).servers l.i (port_number l.u r)))
