use Rattle.std.proofs.Common.{◌∙◌, arith}
use Rattle.std.proofs.Math.Seq.{length-take-le}
use Rattle.judge_lib.proofs.Judgement.{places-smaller}
use Rattle.judge_lib.proofs.place.Goals as goal

pub returns : goal.returns
returns c = places-smaller _ _ _ c.judge_and_place.ensures.places.place_is (length-take-le _ _ (omega arith) ∙ c.smaller-n.ensures.value)
