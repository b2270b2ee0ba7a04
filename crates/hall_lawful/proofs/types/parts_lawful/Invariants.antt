-- The rows below x are lawful.
use Rattle.words.specs.Words.{tables_in}
use Rattle.hall_lawful.specs.Parts.{part_lawful}
use Rattle.hall_lawful.proofs.Loops.{Passed}
use Rattle.hall_lawful.proofs.types.parts_lawful.Given as goal

abbrev pub invariant-loop-x : goal.invariant-loop-x
invariant-loop-x l = Passed (part_lawful l.part (tables_in l.tables) l.k) l.x
