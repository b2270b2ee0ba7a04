use Rattle.item_spec.specs.Reader.{bytes}
use Rattle.passlist_spec.specs.Row.{three_cells, last_mark, number_cells}
use Rattle.passlist_lib.proofs.Laws.{cells_then_mark, read-fault, read-then}
use Rattle.passlist_lib.proofs.cells.number_cells.Goals as goal

pub returns-in_err-a : goal.returns-in_err-a
unfolding number_cells
returns-in_err-a c = rw c.from_residual.ensures (read-fault three_cells (λ _. cells_then_mark) c.in_err-a.ensures)

pub returns-in_err-b : goal.returns-in_err-b
unfolding number_cells
returns-in_err-b c =
    rw c.from_residual-in_err-b.ensures
    (read-then three_cells (λ _. cells_then_mark) c.in_ok-a.ensures (read-fault three_cells (λ _. last_mark (bytes "\n")) c.in_err-b.ensures))

pub returns : goal.returns
unfolding number_cells
returns c =
    read-then three_cells (λ _. cells_then_mark) c.in_ok-a.ensures
    (read-then three_cells (λ _. last_mark (bytes "\n")) c.in_ok-b.ensures c.last_mark.ensures)
