use Rattle.write_items.proofs.Laws.{then}
use Rattle.register_lib.proofs.Cells.{row_written}
use Rattle.register_lib.proofs.write_row.Goals as goal

pub returns : goal.returns
returns c =
    let to_word = then (then c.show_cell-a.ensures c.write_byte-b.ensures) c.write_outcome-c.ensures in
    let to-port = then (then to_word c.write_cell-d.ensures) c.write_port-e.ensures in
    let to-line = then to-port (rw (c.then_some.ensures, c.is_pointed.ensures) at c.write_cell-f.ensures) in
    let to-accepted = then to-line (rw (c.then_some-2.ensures, c.is_walked-went.ensures) at c.write_cell-g.ensures) in
    let to-next = then to-accepted (rw (c.then_some-3.ensures, c.is_walked-went.ensures) at c.write_cell-h.ensures) in
    let to-mark = then (then to-next c.write_cell-i.ensures) c.write_cell-j.ensures in
    row_written _ _ (then to-mark c.write_byte.ensures)
