use Rattle.write_items.proofs.Turns.{turns-none, turns_more, turns-all}
use Rattle.write_texts.proofs.lines_of.put_steps.Goals as goal

pub loop-j-init : goal.loop-j-init
loop-j-init c = turns-none

pub loop-j-preserved : goal.loop-j-preserved
loop-j-preserved c = turns_more c.loop-j.invariant c.loop-j-test.true (rw c.step_at.ensures at c.write_step-used.ensures)

pub returns : goal.returns
returns c = turns-all c.loop-j.invariant c.loop-j-test.false
