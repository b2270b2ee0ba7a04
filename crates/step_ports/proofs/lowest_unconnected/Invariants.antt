-- No port below q is unconnected.
use Rattle.std.proofs.Common.{◌≡◌, false}
use Rattle.sets.specs.Test.{any_below}
use Rattle.rules_spec.specs.Refusal.{unconnected}
use Rattle.words.specs.Words.{tables_in, state_in}
use Rattle.step_ports.specs.Turns.{gets}
use Rattle.step_ports.proofs.lowest_unconnected.Given as goal

abbrev pub invariant-loop-q : goal.invariant-loop-q
invariant-loop-q l = any_below l.q (gets (tables_in l.tables) (state_in l.state) l.i l.next unconnected) ≡ false
