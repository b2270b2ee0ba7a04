-- Two that are equal to one are equal.
-- Assumes nothing.
use mathlib.Core.Path.{sym, ◌∙◌}
use Rattle.item_spec.specs.Once.{NoOtherEquals}

pub no-other-equals : NoOtherEquals
unfolding NoOtherEquals
no-other-equals A e x y p q = p ∙ sym q
