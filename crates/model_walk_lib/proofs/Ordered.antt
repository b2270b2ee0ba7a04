-- The steps by number are the steps in order.
-- Assumes nothing.
use mathlib.Core.Path.{refl}
use Rattle.model.specs.View.{list_of}
use Rattle.model_walk_spec.specs.Order.{steps_on, steps_below, in_order}
use Rattle.model_walk_lib.specs.Turns.{on_instance, ordered_at, ordered_from, NumberedSo}

pub numbered-so : NumberedSo
unfolding NumberedSo in_order steps_below steps_on list_of ordered_from ordered_at on_instance
numbered-so = refl
