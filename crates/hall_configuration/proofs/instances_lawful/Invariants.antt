-- The instances below i are lawful.
use Rattle.words.specs.Words.{tables_in, state_in}
use Rattle.hall_configuration.specs.Lawful.{instance_lawful}
use Rattle.hall_lawful.proofs.Loops.{Passed}
use Rattle.hall_configuration.proofs.instances_lawful.Given as goal

abbrev pub invariant-loop-i : goal.invariant-loop-i
invariant-loop-i l = Passed (instance_lawful l.default (tables_in l.tables) (state_in l.state)) l.i
