use Rattle.write_items.proofs.Turns.{turns-none, turns_more, turns-all}
use Rattle.write_texts.proofs.lines_of.put_rows.Goals as goal

pub loop-x-init : goal.loop-x-init
loop-x-init c = turns-none

pub loop-x-preserved : goal.loop-x-preserved
loop-x-preserved c = turns_more c.loop-x.invariant c.loop-x-test.true (rw c.row_at-row.ensures at c.write_row-used.ensures)

pub returns : goal.returns
returns c = turns-all c.loop-x.invariant c.loop-x-test.false
