use Rattle.judge_lib.proofs.Places.{place-within, part_placed}
use Rattle.judge_lib.proofs.offending.Goals as goal

pub returns : goal.returns
returns c = part_placed _ _ _ _ _ c.place.ensures.place_is (place-within _ _ _) (rw c.unwrap_or-start.ensures at c.part_at.ensures)
