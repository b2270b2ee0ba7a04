-- No other outcome fits what `rewrite` promises.
-- Assumes nothing.
use mathlib.Core.Path.{sym, ◌∙◌}
use Rattle.rewrite_lib.specs.Rewrites.{NoOtherRewriting}

pub rewriting-once : NoOtherRewriting
unfolding NoOtherRewriting
rewriting-once s old r q b c x y = (x.answer-is ∙ sym y.answer-is, x.buffer-is ∙ sym y.buffer-is)
