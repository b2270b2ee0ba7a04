-- A judge that refuses all and one that answers with one fixed report meet demand 3 taken alone.
-- Assumes nothing.
use mathlib.Core.Bool.{false≢true}
use mathlib.Core.Path.{refl}
use Rattle.demands.specs.Alone.{RefusingIsAdmitted, FixedIsAdmitted}

pub refusing-is-admitted : RefusingIsAdmitted
unfolding RefusingIsAdmitted
refusing-is-admitted print = record { agree = λ s a b e f same. absurd (false≢true e); exchange = λ s a x e. e }

pub fixed-is-admitted : FixedIsAdmitted
unfolding FixedIsAdmitted
fixed-is-admitted x = record { agree = λ s a b e f same. refl; exchange = λ s a y e. e }
