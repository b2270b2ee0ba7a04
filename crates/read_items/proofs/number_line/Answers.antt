use Rattle.read_items.proofs.Shapes.{key-fault, key-then}
use Rattle.read_items.proofs.number_line.Goals as goal

pub returns-in_err-i : goal.returns-in_err-i
returns-in_err-i c = rw c.from_residual.ensures (key-fault _ _ c.in_err-i.ensures)

pub returns : goal.returns
returns c = key-then _ _ c.in_ok-i.ensures c.one_number.ensures
