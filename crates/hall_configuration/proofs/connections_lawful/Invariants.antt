-- The use ports below s are lawful.
use Rattle.words.specs.Words.{tables_in, state_in}
use Rattle.hall_lawful.proofs.Loops.{Passed}
use Rattle.hall_configuration.proofs.Servers.{lawful_at}
use Rattle.hall_configuration.proofs.connections_lawful.Given as goal

abbrev pub invariant-loop-s : goal.invariant-loop-s
invariant-loop-s l = Passed (lawful_at (tables_in l.tables) (state_in l.state) (state_in l.state).servers) l.s
