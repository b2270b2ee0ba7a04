use Rattle.aeolus_lib.proofs.Places.{place-within, part_placed}
use Rattle.aeolus_lib.proofs.offending.Goals as goal

pub returns : goal.returns
returns c = part_placed _ _ _ _ _ c.place.ensures (place-within _ _ _) c.part_at.ensures
