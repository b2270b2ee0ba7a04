use Rattle.write_items.proofs.Laws.{then}
use Rattle.register_lib.proofs.write_cell.Goals as goal

pub returns-in-Some : goal.returns-in-Some
returns-in-Some c = rw c.in-Some.is (then c.write_byte-p.ensures c.write_number.ensures)

pub returns-in-None : goal.returns-in-None
returns-in-None c = rw c.in-None.is c.write_byte-p.ensures
