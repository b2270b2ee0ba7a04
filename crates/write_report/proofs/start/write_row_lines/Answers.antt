use Rattle.write_items.proofs.Turns.{turns-none, turns_more, turns-all}
use Rattle.write_report.proofs.start.write_row_lines.Goals as goal

pub loop-i-init : goal.loop-i-init
loop-i-init c = turns-none

pub loop-i-preserved : goal.loop-i-preserved
loop-i-preserved c = turns_more c.loop-i.invariant c.loop-i-test.true c.write_row_at-used.ensures

pub returns : goal.returns
returns c = turns-all c.loop-i.invariant c.loop-i-test.false
