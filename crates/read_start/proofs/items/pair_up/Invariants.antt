use Rattle.read_start.proofs.Queues.{Paired}
use Rattle.read_start.proofs.items.pair_up.Given as goal

abbrev pub invariant-loop-r : goal.invariant-loop-r
invariant-loop-r l = Paired l.initial.slots l.slots l.r
