use Rattle.passlist_spec.specs.declared.Cell.TheVariants.{Number}
use Rattle.passlist_spec.specs.Row.{past_cell, three_cells}
use Rattle.passlist_lib.proofs.Laws.{two_cells, read-fault, read-then}
use Rattle.passlist_lib.proofs.cells.past_three.Goals as goal

pub returns-in_err-a : goal.returns-in_err-a
unfolding three_cells
returns-in_err-a c = rw c.from_residual.ensures (read-fault (past_cell Number) (λ _. two_cells) c.in_err-a.ensures)

pub returns-in_err-b : goal.returns-in_err-b
unfolding three_cells
returns-in_err-b c =
    rw c.from_residual-in_err-b.ensures
    (read-then (past_cell Number) (λ _. two_cells) c.in_ok-a.ensures (read-fault (past_cell Number) (λ _. past_cell Number) c.in_err-b.ensures))

pub returns : goal.returns
unfolding three_cells
returns c =
    read-then (past_cell Number) (λ _. two_cells) c.in_ok-a.ensures
    (read-then (past_cell Number) (λ _. past_cell Number) c.in_ok-b.ensures c.past_cell-3.ensures)
