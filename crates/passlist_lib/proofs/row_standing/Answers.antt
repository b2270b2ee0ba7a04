use mathlib.Core.Path.{◌∙◌, refl}
use Rattle.item_spec.specs.Reader.{give}
use Rattle.passlist_spec.specs.declared.Cell.TheVariants.{Name}
use Rattle.passlist_spec.specs.Row.{past_cell, said_cell, number_cells, row_says}
use Rattle.passlist_lib.proofs.Laws.{said_then, mark_then, row-fault, row_is, read-fault, read-then}
use Rattle.passlist_lib.proofs.row_standing.Goals as goal

pub returns-in_default : goal.returns-in_default
unfolding row_says
returns-in_default c = row-fault c.args.pass (read-fault (past_cell Name) (λ _. said_then) c.in_default.ensures)

pub returns-in_default-said_at : goal.returns-in_default-said_at
unfolding row_says
returns-in_default-said_at c =
    row-fault c.args.pass (read-then (past_cell Name) (λ _. said_then) c.in-Some.ensures (read-fault said_cell mark_then c.in_default-said_at.ensures))

pub returns-in_default-number_cells : goal.returns-in_default-number_cells
unfolding row_says
returns-in_default-number_cells c =
    row-fault c.args.pass
    (read-then (past_cell Name) (λ _. said_then) c.in-Some.ensures
    (read-then said_cell mark_then c.in-Some-said_at.ensures
    (read-fault number_cells (λ m. give (_, m)) c.in_default-number_cells.ensures)))

pub returns : goal.returns
unfolding row_says
returns c =
    let k = c.in-Some-number_cells.ensures in
    c.standing_by.ensures
    ∙ row_is c.args.pass
    (read-then (past_cell Name) (λ _. said_then) c.in-Some.ensures
    (read-then said_cell mark_then c.in-Some-said_at.ensures
    (read-then number_cells (λ m. give (_, m)) k (record { within = k.within; same = refl }))))
