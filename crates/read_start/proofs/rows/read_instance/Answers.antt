use native.Mathlib.Omega.{arith}
use native.Mathlib.Numerals.{add-one}
use Rattle.read_items.proofs.Laws.{handed_on}
use Rattle.read_chain.proofs.Placed.{placed-ok}
use Rattle.words.specs.Words.{tables_in}
use Rattle.read_start.proofs.RowLines.{row_put, row-stop}
use Rattle.read_start.proofs.Laws.{room-few}
use Rattle.read_start.proofs.rows.read_instance.Goals as goal

pub returns-in_err-row : goal.returns-in_err-row
returns-in_err-row c = λ j.
    rw (handed_on _ c.from_residual.ensures.1) (row-stop _ _ _ _ _ _ _ _ _ c.place_in-at.ensures _ _ c.row_line-line.ensures.reads c.in_err-row.ensures j)

pub returns : goal.returns
returns c = λ j.
    let a = c.args in
    let small = rw (placed-ok _ _ c.in_ok-row.ensures) at c.row_line-line.ensures.small in
    rw (c.with_row.ensures.state (omega (arith, small.0, room-few a.setting.default (tables_in a.tables.now))), c.with_row.ensures.last, add-one)
    (row_put _ _ _ _ _ _ _ _ _ c.place_in-at.ensures _ _ c.row_line-line.ensures.reads c.in_ok-row.ensures j)
