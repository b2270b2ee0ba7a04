use mathlib.Core.Path.{refl}
use Rattle.read_items.proofs.Laws.{handed_on}
use Rattle.read_chain.proofs.Placed.{line-put, line-stop}
use Rattle.words.specs.Words.{tables_in}
use Rattle.read_sheet_lines.specs.Rows.{row_line}
use Rattle.read_sheet_lines.specs.Says.{row_says}
use Rattle.read_sheet.specs.Rows.{put_row, row}
use Rattle.read_sheet.proofs.types.read_row.Goals as goal

pub returns-in_err-row : goal.returns-in_err-row
unfolding row
returns-in_err-row c =
    let a = c.args in
    rw (handed_on _ c.from_residual.ensures.1)
    (line-stop row_says (row_line a.rows a.known) (put_row a.rows (tables_in a.tables.now) a.slot) _ _ _ c.place_in-at.ensures _ c.row_line-line.ensures c.in_err-row.ensures refl)

pub returns : goal.returns
unfolding row
returns c =
    let a = c.args in
    rw c.put_row.ensures
    (line-put row_says (row_line a.rows a.known) (put_row a.rows (tables_in a.tables.now) a.slot) _ _ _ c.place_in-at.ensures _ c.row_line-line.ensures c.in_ok-row.ensures refl)
