-- No other part fits: it is told by where it lies.
-- Assumes nothing.
use mathlib.Core.Path.{sym, ◌∙◌}
use Rattle.judge_lib.specs.Once.{NoOtherPart}

pub part-once : NoOtherPart
unfolding NoOtherPart
part-once p s b a r q h g = (λ i. ((h.block ∙ sym g.block) i, (h.place ∙ sym g.place) i), h.holds ∙ sym g.holds)
