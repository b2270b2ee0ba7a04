-- No other outcome fits: what is promised is an equation with the definition, so two results that meet it are one.
-- Assumes nothing.
use mathlib.Core.Path.{sym, ◌∙◌}
use Rattle.aeolus_judge_spec.specs.Once.{NoOtherFits}

pub no-other-fits : NoOtherFits
unfolding NoOtherFits
no-other-fits s a old v₁ v₂ b₁ b₂ p₁ p₂ h g = (h.verdict-is ∙ sym g.verdict-is, h.buffer-is ∙ sym g.buffer-is, h.place_is ∙ sym g.place_is)
