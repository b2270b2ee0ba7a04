-- That no other answer fits the promise of a text of times.
-- Assumes nothing.
use mathlib.Core.Path.{sym, ◌∙◌}
use Rattle.read_times.specs.Times.{NoOtherTimes}

pub times-once : NoOtherTimes
unfolding NoOtherTimes
times-once s r q e f = e ∙ sym f
