use native.Mathlib.Omega.{arith}
use Rattle.write_items.proofs.Turns.{turns-none, turns_more, turns-all}
use Rattle.aeolus_write_report.proofs.write_component_lines.Goals as goal

pub loop-z-init : goal.loop-z-init
loop-z-init c = turns-none

pub loop-z-preserved : goal.loop-z-preserved
loop-z-preserved c = turns_more c.loop-z.invariant (omega arith) c.write_component-used.ensures

pub returns : goal.returns
returns c = turns-all c.loop-z.invariant (omega arith)
