-- A step is a check and then a change: of a move by its verb, of the instruction that is due, or none where none is left.
-- Assumes nothing.
use mathlib.Core.Path.{◌≡◌, sym, ap, ◌∙◌}
use mathlib.Core.Logic.{◌≢◌}
use Prim.Native.Nat.{ℕ, ◌+◌, ◌≤◌, ◌<◌}
use native.Mathlib.Numerals.{add-one}
use lib.Dec.{eqb}
use lib.ListN.{get_or}
use borrow.Author.Tests.{eq-eqb, ne_eqb, le-leb, lt-leb}
use Rattle.model.specs.declared.Tables.{Tables}
use Rattle.model.specs.declared.Program.{Program}
use Rattle.model.specs.declared.Step.{Step}
use Rattle.model.specs.declared.Stepped.{Stepped}
use Rattle.model.specs.declared.Configuration.{Configuration}
use Rattle.model.specs.declared.Concerned.{Concerned}
use Rattle.model.specs.declared.Concerned.TheVariants.{NoPort}
use Rattle.model.specs.Empty.{no_instruction}
use Rattle.model.specs.Verb.{add_verb, del_verb, pushb_verb, con_verb, dcon_verb, push_ticket_verb, wait_ticket_verb}
use Rattle.model.specs.View.{with_done}
use Rattle.item_spec.proofs.Tests.{by-test}
use Rattle.rules_spec.specs.Standing.{Standing, standing}
use Rattle.rules_spec.specs.Action.{instruction_action, move_action, effect, concern}
use Rattle.rules_spec.specs.Step.{action_at, action, check_at, step_check_with}
use Rattle.step_ports.specs.declared.Answered.{Answered}
use Rattle.step_walk.specs.Held.{held, held_to, held_step}
use Rattle.step_walk.proofs.Held.{held_fits, moves-fit}
use Rattle.step_walk.specs.Reached.{answer_at, stepped}

-- an instruction asks no port
unasked : (t : Tables) (x : Standing) (c : Configuration) (p : Program) (k n : ℕ) → concern t x c (action_at p k) n ≡ NoPort
unfolding action_at instruction_action concern
unasked t x c p k n =
    let v : ℕ = (get_or p.instructions k no_instruction).verb in
    by-test (eqb v add_verb) (λ a. rw a)
    (λ a. by-test (eqb v del_verb) (λ b. rw (a, b))
    (λ b. by-test (eqb v pushb_verb) (λ d. rw (a, b, d))
    (λ d. by-test (eqb v con_verb) (λ f. rw (a, b, d, f))
    (λ f. by-test (eqb v dcon_verb) (λ g. rw (a, b, d, f, g))
    (λ g. by-test (eqb v push_ticket_verb) (λ h. rw (a, b, d, f, g, h))
    (λ h. by-test (eqb v wait_ticket_verb) (λ w. rw (a, b, d, f, g, h, w)) (λ w. rw (a, b, d, f, g, h, w))))))))

abbrev settled : ℕ → Concerned → Configuration → Stepped
settled n q c = record { refused = n; port = q; configuration = c }

module _ (default : ℕ) (t : Tables) (p : Program) (c : Configuration) (s : Step) where
  module _ (is : s.verb ≢ 0) (x : Answered) (e : x ≡ answer_at default t c (move_action s)) where
    number : x.refused ≡ check_at default t c (move_action s)
    number = ap (λ (y : Answered). y.refused) e

    pub move-refused : x.refused ≢ 0 → stepped x c ≡ held_step default t p c s
    unfolding held_step step_check_with action
    move-refused d = rw (ne_eqb _ _ is, ne_eqb (check_at default t c (move_action s)) 0 (λ z. d (number ∙ z)), e)

    pub move-made : x.refused ≡ 0 → (d : Configuration) → d ≡ effect t c (move_action s) → settled 0 NoPort d ≡ held_step default t p c s
    unfolding held_step step_check_with held_to action
    move-made z d f = rw (ne_eqb _ _ is, eq-eqb (check_at default t c (move_action s)) 0 (sym number ∙ z), f, held_fits t c (move_action s) (moves-fit s))

  module _ (is : s.verb ≡ 0) where
    pub none_left : p.count ≤ c.done → settled 10 NoPort c ≡ held_step default t p c s
    unfolding held_step step_check_with action
    none_left h =
        rw (eq-eqb _ _ is, le-leb _ _ h) (ap (λ (q : Concerned). settled 10 q c) (sym (unasked t (standing c) c p c.done 10)))

    module _ (n : ℕ) (left : c.done < p.count) (e : n ≡ check_at default t c (action_at p c.done)) where
      pub next-refused : n ≢ 0 → settled n NoPort c ≡ held_step default t p c s
      unfolding held_step step_check_with action
      next-refused d =
          rw (eq-eqb _ _ is, lt-leb _ _ left, ← e, ne_eqb n 0 d) (ap (λ (q : Concerned). settled n q c) (sym (unasked t (standing c) c p c.done n)))

      pub next-made : n ≡ 0 → (d : Configuration) → d ≡ with_done (held t c (action_at p c.done)) (c.done + 1) → settled 0 NoPort d ≡ held_step default t p c s
      unfolding held_step step_check_with held_to action
      next-made z d f = rw (eq-eqb _ _ is, lt-leb _ _ left, ← e, eq-eqb n 0 z, f, add-one c.done)
