use Rattle.read_items.proofs.Shapes.{first-fault, second-fault, both, sets-is}
use Rattle.read_items.proofs.two_lists.Goals as goal

pub returns-in_err-first : goal.returns-in_err-first
returns-in_err-first c = rw (c.from_residual.ensures, sets-is) (first-fault _ _ _ c.in_err-first.ensures)

pub returns-in_err-second : goal.returns-in_err-second
returns-in_err-second c = rw (c.from_residual-in_err-second.ensures, sets-is) (second-fault _ _ _ c.in_ok-first.ensures c.in_err-second.ensures)

pub returns : goal.returns
returns c = rw sets-is (both _ _ _ c.in_ok-first.ensures c.in_ok-second.ensures)
