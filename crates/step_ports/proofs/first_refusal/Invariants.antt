-- Of the ports below q none is unconnected or unserved, and it is known whether a provider refuses one and which services end.
use Rattle.std.proofs.Common.{◌≡◌, false}
use Rattle.sets.specs.Test.{any_below}
use Rattle.rules_spec.specs.Refusal.{provider_refusing}
use Rattle.words.specs.Words.{tables_in, state_in}
use Rattle.step_ports.specs.Turns.{gets, fails, ending_below}
use Rattle.step_ports.proofs.first_refusal.Given as goal

abbrev pub invariant-loop-q : goal.invariant-loop-q
invariant-loop-q l = record {
  passes : any_below l.q (fails (tables_in l.tables) (state_in l.state) l.i l.next) ≡ false;
  refused : l.refuses ≡ any_below l.q (gets (tables_in l.tables) (state_in l.state) l.i l.next provider_refusing);
  ends : l.ending ≡ ending_below (tables_in l.tables) (state_in l.state) l.i l.next l.q;
}
