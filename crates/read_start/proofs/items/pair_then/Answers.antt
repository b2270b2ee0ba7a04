use native.Mathlib.Omega.{arith}
use mathlib.Core.Path.{sym}
use Rattle.read_start.proofs.Queues.{number-took}
use Rattle.read_start.proofs.items.pair_then.Goals as goal

pub overflow_add-stamp : goal.overflow_add-stamp
overflow_add-stamp c = omega (arith, (number-took _ _ _ _ (sym c.in_ok-ticket.ensures.same)).1)
