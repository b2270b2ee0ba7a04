-- The types below k are lawful.
use Rattle.read_spec.specs.Lawful.{type_lawful}
use Rattle.words.specs.Words.{tables_in}
use Rattle.hall_lawful.proofs.Loops.{Passed}
use Rattle.hall_lawful.proofs.types.types_lawful.Given as goal

abbrev pub invariant-loop-k : goal.invariant-loop-k
invariant-loop-k l = Passed (type_lawful (tables_in l.tables)) l.k
