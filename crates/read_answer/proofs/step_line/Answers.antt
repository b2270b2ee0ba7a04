use Prim.Native.Nat.{zero-le}
use mathlib.Core.Path.{refl}
use Rattle.read_items.proofs.Limits.{verb-here, verb-other}
use Rattle.read_spec.specs.Kinds.{step_line}
use Rattle.read_answer.proofs.Numbers.{id-is, number_is}
use Rattle.read_answer.proofs.step_line.Goals as goal

pub returns-in-Some : goal.returns-in-Some
unfolding step_line
returns-in-Some c = verb-here _ _ _ c.in-Some.ensures (record { within = c.in-Some.ensures.within; same = refl })

pub returns-in-Some-past_key : goal.returns-in-Some-past_key
unfolding step_line
returns-in-Some-past_key c =
    verb-other _ _ _ c.in_default.ensures
    (verb-here _ _ _ c.in-Some-past_key.ensures (rw (number_is _ _ 15) at c.step_numbers.ensures))

pub returns-in-Some-past_key-2 : goal.returns-in-Some-past_key-2
unfolding step_line
returns-in-Some-past_key-2 c =
    verb-other _ _ _ c.in_default.ensures
    (verb-other _ _ _ c.in_default-past_key.ensures
    (verb-here _ _ _ c.in-Some-past_key-2.ensures (rw (number_is _ _ 31) at c.step_numbers-in-Some-past_key-2.ensures)))

pub returns-in-Some-past_key-3 : goal.returns-in-Some-past_key-3
unfolding step_line
returns-in-Some-past_key-3 c =
    verb-other _ _ _ c.in_default.ensures
    (verb-other _ _ _ c.in_default-past_key.ensures
    (verb-other _ _ _ c.in_default-past_key-2.ensures
    (verb-here _ _ _ c.in-Some-past_key-3.ensures (rw (number_is _ _ 15) at c.step_numbers-in-Some-past_key-3.ensures))))

pub returns-in-Some-past_key-4 : goal.returns-in-Some-past_key-4
unfolding step_line
returns-in-Some-past_key-4 c =
    verb-other _ _ _ c.in_default.ensures
    (verb-other _ _ _ c.in_default-past_key.ensures
    (verb-other _ _ _ c.in_default-past_key-2.ensures
    (verb-other _ _ _ c.in_default-past_key-3.ensures
    (verb-here _ _ _ c.in-Some-past_key-4.ensures (rw id-is at c.step_numbers-in-Some-past_key-4.ensures)))))

pub returns : goal.returns
unfolding step_line
returns c =
    verb-other _ _ _ c.in_default.ensures
    (verb-other _ _ _ c.in_default-past_key.ensures
    (verb-other _ _ _ c.in_default-past_key-2.ensures
    (verb-other _ _ _ c.in_default-past_key-3.ensures
    (verb-other _ _ _ c.in_default-past_key-4.ensures
    (record { within = zero-le; same = refl })))))
