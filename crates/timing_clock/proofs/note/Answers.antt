use Rattle.std.proofs.Common.{refl, add-one}
use Rattle.timing_spec.specs.Clock.{notes}
use Rattle.timing_clock.proofs.note.Goals as goal

pub loop-x-init : goal.loop-x-init
unfolding notes
loop-x-init c = refl

pub loop-x-preserved : goal.loop-x-preserved
unfolding notes
loop-x-preserved c = rw (add-one, ← c.loop-x.invariant) c.note_at.ensures
