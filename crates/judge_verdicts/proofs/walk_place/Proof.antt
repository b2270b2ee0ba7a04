use borrow.Author.Rules.{rules}
use Rattle.judge_spec.specs.Judged.{no_room}
use Rattle.judge_verdicts.specs.Fits.{place_for}
use Rattle.judge_verdicts.proofs.walk_place.Statement.{statement}
use Rattle.judge_verdicts.proofs.walk_place.Tie as tie

returns : tie.Need-returns-then-fits
unfolding place_for
returns c = rw (c.if-fits.true, place_for) c.step_place.ensures

returns-2 : tie.Need-returns-else-fits
unfolding place_for no_room
returns-2 c = rw (c.if-fits.false, place_for) c.empty_at.ensures

pub walk_place_spec : {M : Type 1} → statement M
walk_place_spec = tie.close (tie.spec
    (λ c κs. search rules) (λ c κs. search rules) returns returns-2)
