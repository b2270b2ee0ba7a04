use Rattle.std.proofs.Common.{◌∙◌}
use Rattle.words.specs.Words.{state_in}
use Rattle.foretell_lib.proofs.Kept.{slot-start, slot-more}
use Rattle.foretell_lib.proofs.names.zero_queues.Goals as goal

pub loop-n-init : goal.loop-n-init
loop-n-init c = slot-start _

pub loop-n-preserved : goal.loop-n-preserved
loop-n-preserved c = let l = c.loop-n in c.put_slot.ensures ∙ slot-more _ (state_in l.state) l.n l.invariant
