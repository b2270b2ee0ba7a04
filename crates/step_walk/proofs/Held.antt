-- Where the numbers are words, what words hold is what the rules say.
-- Assumes nothing.
use mathlib.Core.Path.{◌≡◌, refl}
use mathlib.Core.Logic.{by_cases}
use native.Mathlib.Omega.{arith}
use native.Mathlib.Decide.{dec_lt}
use lib.Dec.{eqb}
use borrow.Author.Tests.{lt-ltb, le-leb}
use Rattle.item_spec.proofs.Tests.{by-test}
use Rattle.model.specs.declared.Tables.{Tables}
use Rattle.model.specs.declared.Step.{Step}
use Rattle.model.specs.declared.Configuration.{Configuration}
use Rattle.model.specs.Verb.{fire_verb, end_verb, enter_verb}
use Rattle.rules_spec.specs.Action.{Action, move_action, effect}
use Rattle.rules_spec.specs.Step.{is_next, action, step_check_with, step_to, step}
use Rattle.rules_spec.specs.Walk.{walk_by, walk}
use Rattle.step_walk.specs.Fits.{PortFits}
use Rattle.step_walk.specs.Held.{held, held_to, held_step, held_walk, HeldStepIsTheStep, HeldWalkIsTheWalk}

pub held_fits : (t : Tables) (c : Configuration) (a : Action) → PortFits a → held t c a ≡ effect t c a
unfolding held effect
held_fits t c (Action.con k) h = rw (lt-ltb _ _ h) refl
held_fits t c (Action.add i k) h = refl
held_fits t c (Action.del i) h = refl
held_fits t c (Action.pushb i b) h = rw (lt-ltb _ _ h) refl
held_fits t c (Action.dcon k) h = refl
held_fits t c (Action.wait i) h = refl
held_fits t c (Action.fire i p) h = refl
held_fits t c (Action.end i x) h = refl
held_fits t c (Action.enter i p) h = refl
held_fits t c (Action.finish i) h = refl

pub moves-fit : (s : Step) → PortFits (move_action s)
unfolding move_action
moves-fit s =
    by-test (eqb s.verb fire_verb) (λ a. rw a tt)
    (λ a. by-test (eqb s.verb end_verb) (λ b. rw (a, b) tt)
    (λ b. by-test (eqb s.verb enter_verb) (λ d. rw (a, b, d) tt) (λ d. rw (a, b, d) tt)))

pub held-step-is-the-step : HeldStepIsTheStep
unfolding HeldStepIsTheStep held_step held_to step step_to step_check_with action
held-step-is-the-step default t p c s fits =
    by-test (is_next s)
    (λ e. by_cases (dec_lt c.done p.count) (λ h. rw (e, held_fits t c _ (fits c.done h)) refl) (λ h. rw (e, le-leb p.count c.done (omega arith)) refl))
    (λ e. rw (e, held_fits t c (move_action s) (moves-fit s)) refl)

pub held-walk-is-the-walk : HeldWalkIsTheWalk
unfolding HeldWalkIsTheWalk HeldStepIsTheStep held_walk walk
held-walk-is-the-walk default t p c ss fits i = walk_by (λ (d : Configuration) (s : Step). held-step-is-the-step default t p d s fits i) c ss
