-- No other outcome fits: what is promised is an equation with the definition.
-- Assumes nothing.
use mathlib.Core.Path.{sym, ◌∙◌}
use Rattle.aeolus_lib.specs.Once.{NoOtherVerdict, NoOtherPlace, NoOtherPrint}

pub no-other-verdict : NoOtherVerdict
unfolding NoOtherVerdict
no-other-verdict s a old b c v w (e, f) (g, h) = (e ∙ sym g, f ∙ sym h)

pub no-other-place : NoOtherPlace
unfolding NoOtherPlace
no-other-place s a room p q e f = e ∙ sym f

pub no-other-print : NoOtherPrint
unfolding NoOtherPrint
no-other-print s a old b c n m (e, f) (g, h) = (e ∙ sym g, f ∙ sym h)
