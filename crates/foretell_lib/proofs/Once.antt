-- No other outcome fits what foretelling promises.
-- Assumes nothing.
use mathlib.Core.Path.{sym, ◌∙◌}
use Rattle.foretell_lib.specs.Foresees.{NoOtherForeseen, NoOtherForeseenPrint}

pub foreseen-once : NoOtherForeseen
unfolding NoOtherForeseen
foreseen-once s r q e f = e ∙ sym f

pub print-once : NoOtherForeseenPrint
unfolding NoOtherForeseenPrint
print-once s old b c n m x y = (x.0 ∙ sym y.0, x.1 ∙ sym y.1)
