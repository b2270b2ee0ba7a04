use native.Mathlib.Omega.{arith}
use Rattle.timing_clock.proofs.end_at.Goals as goal

pub overflow_add-noted : goal.overflow_add-noted
overflow_add-noted c = omega (arith, c.requires.small, c.requires.past c.args.slot, c.at_or-noted.ensures, c.at_or-seconds.type_inv)
