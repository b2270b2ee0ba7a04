use Rattle.compare_batch.specs.Within.{Inside}
use Rattle.compare_batch.proofs.run.Given as goal

abbrev pub invariant-loop : goal.invariant-loop
invariant-loop g l = Inside l.flow l.input
