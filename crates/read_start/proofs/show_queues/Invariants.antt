use Rattle.read_start.proofs.Shown.{Shown}
use Rattle.read_start.proofs.show_queues.Given as goal

abbrev pub invariant-loop-n : goal.invariant-loop-n
invariant-loop-n l = Shown l.state l.initial.begun l.begun l.n
