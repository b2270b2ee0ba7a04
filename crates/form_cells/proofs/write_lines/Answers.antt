use Rattle.form_cells.proofs.Laws.{evened-more, evened-all, mark-off}
use Rattle.form_cells.proofs.write_lines.Goals as goal

pub loop-c-preserved : goal.loop-c-preserved
loop-c-preserved c =
    let l = c.loop-c in
    let t = c.take_cell-row.ensures in
    evened-more _ _ _ l.c-index _ _ _ _ _ _ _ _ _ _ _ l.invariant c.loop-c-test.true c.note_after-noted.ensures
    c.comma_for.ensures t.bytes t.first t.commas

pub returns-clause-bytes : goal.returns-clause-bytes
returns-clause-bytes c =
    evened-all _ _ _ c.loop-c.c-index _ _ _ _ _ c.loop-c.invariant c.loop-c-test.false c.args.rows.now
    (mark-off c.args.rows.now c.past_mark.result c.past_mark.ensures.within c.past_mark.ensures.rest) c.separator-separator.ensures
