-- What the screen leaves: after 7, after a step of the rules, after a refusal.
-- Assumes nothing.
use mathlib.Core.Path.{◌≡◌, refl, sym, ap, ◌∙◌, subst⁻¹}
use mathlib.Core.Logic.{◌≢◌}
use mathlib.Core.Bool.{Bool, true, false, ◌&&◌, cond}
use lib.Dec.{eqb}
use mathlib.Core.List.{List}
use Prim.Native.Nat.{ℕ, suc}
use Rattle.item_spec.proofs.Tests.{and_left, and_right}
use Rattle.model.specs.declared.Tables.{Tables}
use Rattle.model.specs.declared.Program.{Program}
use Rattle.model.specs.declared.Step.{Step}
use Rattle.model.specs.declared.Configuration.{Configuration}
use Rattle.model.specs.declared.Stepped.{Stepped}
use Rattle.model.specs.declared.Concerned.TheVariants.{NoPort}
use Rattle.model.proofs.View.{length-list}
use Rattle.read_spec.specs.Lawful.{tables_lawful, program_lawful}
use Rattle.rules_spec.specs.Step.{is_next, action}
use Rattle.judge_spec.specs.Course.{default_depth}
use Rattle.words.specs.Words.{tables_in, program_in, state_in}
use Rattle.words.proofs.Whole.{state-words}
use Rattle.step_ports.specs.declared.Answered.{Answered}
use Rattle.step_walk.specs.Reached.{stepped}
use Rattle.step_walk.specs.Fits.{PortsFit, LawfulPortsFit}
use Rattle.step_walk.specs.Held.{held_step, HeldStepIsTheStep}
use Rattle.step_walk.proofs.Fits.{lawful-ports-fit}
use Rattle.step_walk.proofs.Held.{held-step-is-the-step}
use Rattle.hall.specs.Screen.{limit_broken, lent_lawful, hall_step, Left}
use Rattle.hall.specs.Agree.{RefusedLeaves}
use Rattle.hall.specs.Slots.{slots, Holds, Whole, EverySlot}
use Rattle.hall.specs.Words.{RefusedIsUntouched, EverySlotOfWords}
use Rattle.hall.proofs.Screen.{refused-leaves}
use Rattle.hall.proofs.Slots.{every-slot}

module _ (t : Tables) (p : Program) (c : Configuration) (s : Step) where
  module _ (lawful : Bool) (says : lawful ≡ lent_lawful t p c s) where
    pub broken-left : lawful ≡ false → (a : Answered) → a ≡ record { refused = limit_broken; port = NoPort } → Left t p c s a c
    unfolding hall_step
    broken-left e a is = rw (sym says ∙ e, is) (refl, refl, refl)

    -- the ports that a lawful program names fit the words
    fit : lawful ≡ true → PortsFit p
    unfolding lent_lawful LawfulPortsFit
    fit e = lawful-ports-fit t.count p (and_right (eqb p.edition 1) _ (and_left (eqb p.edition 1 && program_lawful t.count p) _ (and_right (tables_lawful t) _ (sym says ∙ e))))

    pub ruled-left : lawful ≡ true → (a : Answered) (d : Configuration) → stepped a d ≡ held_step default_depth t p c s → Left t p c s a d
    unfolding hall_step HeldStepIsTheStep
    ruled-left e a d is =
        let steps = is ∙ held-step-is-the-step default_depth t p c s (fit e) in
        rw (sym says ∙ e)
        (ap (λ (m : Stepped). m.refused) steps, ap (λ (m : Stepped). m.port) steps, ap (λ (m : Stepped). m.configuration) steps)

-- what is left after a refusal is what was lent, so that to store it or not is one
module _ (t : Tables) (p : Program) (c d : Configuration) (s : Step) (a : Answered) (left : Left t p c s a d) where
  pub refused-same : a.refused ≢ 0 → d ≡ c
  unfolding RefusedLeaves
  refused-same nz = left.2 ∙ refused-leaves t p c s (λ z. nz (left.0 ∙ z))

  pub refused-left : a.refused ≢ 0 → Left t p c s a c
  refused-left nz = (left.0, left.1, sym (refused-same nz) ∙ left.2)

pub refused-is-untouched : RefusedIsUntouched
unfolding RefusedIsUntouched
refused-is-untouched tables program before after s n a b h nz =
    state-words after before b.many a.many b.small a.small (refused-same _ _ _ _ s n h nz)

whole : (ws : List ℕ) → Whole (state_in ws)
unfolding state_in
whole ws = record { instances = length-list 32 _; queue = length-list 256 _; servers = length-list 512 _ }

pub every-slot-of-words : EverySlotOfWords
unfolding EverySlotOfWords EverySlot
every-slot-of-words tables program before after s a h z =
    subst⁻¹
    (λ (d : Configuration).
    Holds d (slots (tables_in tables) (state_in before) (action (program_in program) (state_in before) s))
    × (d.done ≡ cond (is_next s) (suc (state_in before).done) (state_in before).done))
    h.2 (every-slot _ _ (state_in before) s (whole before) (sym h.0 ∙ z))
