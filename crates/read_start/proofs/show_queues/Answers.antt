use mathlib.Core.Path.{◌∙◌}
use native.Mathlib.Omega.{arith}
use Rattle.read_start.proofs.Shown.{start-shown, one-shown, all_shown}
use Rattle.read_start.proofs.show_queues.Goals as goal

pub loop-n-init : goal.loop-n-init
loop-n-init c = start-shown _ _

pub loop-n-preserved : goal.loop-n-preserved
loop-n-preserved c = one-shown _ _ _ _ _ c.loop-n.invariant (omega arith) (c.put_begun_slot.ensures ∙ rw c.slot_at.ensures)

pub returns : goal.returns
returns c = all_shown _ _ _ _ c.loop-n.invariant (omega arith)
