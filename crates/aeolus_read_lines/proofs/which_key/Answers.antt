use Prim.Native.Nat.{zero-le}
use mathlib.Core.Path.{refl}
use Rattle.read_items.proofs.Limits.{verb-other}
use Rattle.aeolus_read_lines.specs.Kinds.{which_of}
use Rattle.aeolus_read_lines.proofs.Keys.{key_here}
use Rattle.aeolus_read_lines.proofs.which_key.Goals as goal

pub returns-in-Some : goal.returns-in-Some
unfolding which_of
returns-in-Some c = key_here _ _ _ c.in-Some.ensures

pub returns-in-Some-past_key : goal.returns-in-Some-past_key
unfolding which_of
returns-in-Some-past_key c = verb-other _ _ _ c.in_default.ensures (key_here _ _ _ c.in-Some-past_key.ensures)

pub returns-in-Some-past_key-2 : goal.returns-in-Some-past_key-2
unfolding which_of
returns-in-Some-past_key-2 c =
    verb-other _ _ _ c.in_default.ensures (verb-other _ _ _ c.in_default-past_key.ensures (key_here _ _ _ c.in-Some-past_key-2.ensures))

pub returns : goal.returns
unfolding which_of
returns c =
    verb-other _ _ _ c.in_default.ensures
    (verb-other _ _ _ c.in_default-past_key.ensures
    (verb-other _ _ _ c.in_default-past_key-2.ensures (record { within = zero-le; same = refl })))
