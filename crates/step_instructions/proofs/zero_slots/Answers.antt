use Rattle.std.proofs.Common.{◌∙◌}
use Rattle.words.specs.Words.{state_in}
use Rattle.step_instructions.proofs.Slots.{zero-start, zero_more}
use Rattle.step_instructions.proofs.zero_slots.Goals as goal

pub loop-r-init : goal.loop-r-init
loop-r-init c = zero-start _ _

pub loop-r-preserved : goal.loop-r-preserved
loop-r-preserved c = let l = c.loop-r in c.put_slot.ensures ∙ zero_more _ _ (state_in l.state) l.r l.invariant
