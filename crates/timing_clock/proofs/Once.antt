-- No other outcome fits: both fields are equations with the definitions, and words that say the same are the same.
-- Assumes nothing.
use mathlib.Core.Path.{sym, ap, ap₂, ◌∙◌}
use Prim.Native.Nat.{ℕ}
use Rattle.model.specs.declared.Walked.{Walked}
use Rattle.words.proofs.Whole.{state-words}
use Rattle.timing_clock.specs.declared.TimedWalk.{TimedWalk}
use Rattle.model.specs.declared.Configuration.{Configuration}
use Rattle.model.specs.declared.Step.{Step}
use Rattle.model.specs.View.{steps_of}
use Rattle.rules_spec.specs.Walk.{beside_by, walk_from}
use Rattle.timing_spec.specs.Clock.{at_start, tick, clock_from, clock_of}
use Rattle.timing_spec.specs.Mark.{mark_after}
use Rattle.step_walk.specs.Held.{HeldStepIsTheStep, HeldWalkIsTheWalk}
use Rattle.step_walk.proofs.Held.{held-step-is-the-step, held-walk-is-the-walk}
use Rattle.timing_clock.specs.Once.{held_clock, TimedAsRuled, NoOtherTimedWalk}

abbrev made : Walked → ℕ → TimedWalk
made w m = record { passed = record { accepted = w.accepted; refused = w.refused; port = w.port }; mark = m }

pub no-other-timed-walk : NoOtherTimedWalk
unfolding NoOtherTimedWalk
no-other-timed-walk default t p b a ts r q ws vs g h x y =
    let same = x.walked-is ∙ sym y.walked-is in
    (ap₂ made same (x.mark-is ∙ sym y.mark-is), state-words ws vs g.0 h.0 g.1 h.1 (ap (λ (w : Walked). w.configuration) same))

pub timed-as-ruled : TimedAsRuled
unfolding TimedAsRuled HeldStepIsTheStep HeldWalkIsTheWalk held_clock walk_from clock_of clock_from
timed-as-ruled default t p b a ts r c fits promised =
    let walks = held-walk-is-the-walk default t p b (steps_of a) fits in (
      promised.walked-is ∙ walks,
      promised.mark-is
          ∙ (λ i. mark_after (walks i).refused ts.par (beside_by (λ (d : Configuration) (s : Step). held-step-is-the-step default t p d s fits i) (tick ts) b (steps_of a) at_start).now),
    )
