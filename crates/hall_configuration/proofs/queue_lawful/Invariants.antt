-- The slots below r are lawful.
use Rattle.words.specs.Words.{tables_in, state_in}
use Rattle.hall_configuration.specs.Lawful.{queued_lawful}
use Rattle.hall_lawful.proofs.Loops.{Passed}
use Rattle.hall_configuration.proofs.queue_lawful.Given as goal

abbrev pub invariant-loop-r : goal.invariant-loop-r
invariant-loop-r l = Passed (queued_lawful (tables_in l.tables) (state_in l.state) l.i) l.r
