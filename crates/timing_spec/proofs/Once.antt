-- No other outcome fits: each promise is an equation.
-- Assumes nothing.
use Prim.Native.Nat.{ℕ}
use mathlib.Core.List.{List}
use mathlib.Core.Path.{◌≡◌, refl, sym, ap, ◌∙◌}
use lib.ListN.{replicate, length-replicate}
use Rattle.start_spec.specs.Paper.{Paper}
use Rattle.judge_spec.specs.declared.Place.{Place}
use Rattle.timing_spec.specs.Timed.{timed}
use Rattle.timing_spec.specs.Once.{PromisedPlace, NoOtherTiming, NoOtherTimedAnswer, NoOtherTimedPlace}

pub no-other-timing : NoOtherTiming
unfolding NoOtherTiming
no-other-timing s a x old v w b c p q h g =
    (h.verdict-is ∙ sym g.verdict-is, h.buffer-is ∙ sym g.buffer-is, h.place_is ∙ sym g.place_is)

pub no-other-timed-answer : NoOtherTimedAnswer
unfolding NoOtherTimedAnswer NoOtherTiming
no-other-timed-answer s a x old v w b c h g = let n = no-other-timing s a x old v w b c _ _ h g in (n.0, n.1)

-- the promised place is the definition's, and that one is promised
pub the-place : {s : Paper} {a x : List ℕ} {room : ℕ} {p : Place} → PromisedPlace s a x room p → p ≡ (timed s a x room).judgement.place
the-place {s} {a} {x} {room} h = let e = length-replicate {A = ℕ} room 0 in (h (replicate room 0) e).place_is ∙ ap (λ (n : ℕ). (timed s a x n).judgement.place) e

pub place-promised : {s : Paper} {a x : List ℕ} {room : ℕ} {p : Place} → p ≡ (timed s a x room).judgement.place → PromisedPlace s a x room p
place-promised {s} {a} {x} h old e = record { verdict-is = refl; buffer-is = refl; place_is = h ∙ ap (λ (n : ℕ). (timed s a x n).judgement.place) (sym e) }

pub no-other-timed-place : NoOtherTimedPlace
unfolding NoOtherTimedPlace
no-other-timed-place s a x room p q h g = the-place h ∙ sym (the-place g)
