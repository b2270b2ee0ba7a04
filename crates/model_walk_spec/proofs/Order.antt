-- Every step that a line of an answer can say does what some step of the order does; a test that no step of the order passes, none passes.
-- Assumes nothing.
use mathlib.Core.Path.{◌≡◌, sym, subst}
use mathlib.Core.Logic.{◌≢◌, ⊎_elim}
use mathlib.Core.Bool.{true, ◌||◌, cond}
use mathlib.Core.List.{List, [], ◌∷◌, ◌++◌}
use Prim.Native.Nat.{ℕ, zero, suc, ◌<◌, ◌≤◌}
use native.Mathlib.Omega.{arith}
use lib.Dec.{eqb}
use borrow.Author.Tests.{eqb-true, leb-true}
use Rattle.item_spec.proofs.Tests.{by-test, and_left, and_right, or-not}
use Rattle.sets.proofs.Laws.{below-cases}
use Rattle.model.specs.declared.Tables.{Tables}
use Rattle.model.specs.declared.Program.{Program}
use Rattle.model.specs.declared.Step.{Step}
use Rattle.model.specs.declared.Configuration.{Configuration}
use Rattle.model.specs.Verb.{next_verb, fire_verb, end_verb, enter_verb, finish_verb}
use Rattle.model.specs.View.{list_of}
use Rattle.read_spec.specs.Limits.{id_ok, place_ok, transition_ok}
use Rattle.read_spec.specs.Lawful.{step_lawful}
use Rattle.rules_spec.specs.Action.{move_action}
use Rattle.rules_spec.specs.Step.{action, step_check_with, step_check}
use Rattle.write_spec.specs.Steps.{Every}
use Rattle.model_walk_spec.specs.Order.{run, steps_on, steps_below, in_order}

module _ (P : Step → Type 0) where
  pub every-left : (xs ys : List Step) → Every P (xs ++ ys) → Every P xs
  unfolding Every
  every-left [] ys e = tt
  every-left (x ∷ xs) ys e = (e.0, every-left xs ys e.1)

  pub every-right : (xs ys : List Step) → Every P (xs ++ ys) → Every P ys
  unfolding Every
  every-right [] ys e = e
  every-right (x ∷ xs) ys e = every-right xs ys e.1

  pub every-both : (xs ys : List Step) → Every P xs → Every P ys → Every P (xs ++ ys)
  unfolding Every
  every-both [] ys e f = f
  every-both (x ∷ xs) ys e f = (e.0, every-both xs ys e.1 f)

  every-at : (n : ℕ) (f : ℕ → Step) → Every P (list_of n f) → (x : ℕ) → x < n → P (f x)
  unfolding list_of Every
  every-at zero f e x h = absurd (omega arith)
  every-at (suc n) f e zero h = e.0
  every-at (suc n) f e (suc x) h = every-at n (λ r. f (suc r)) e.1 x (omega arith)

  run_at : (v i n : ℕ) → Every P (run v i n) → (x : ℕ) → x < n → P (record { verb = v; id = i; number = x })
  run_at v i n e x h = every-at n (λ x. record { verb = v; id = i; number = x }) e x h

  pub every_of : (n : ℕ) (f : ℕ → Step) → ((x : ℕ) → x < n → P (f x)) → Every P (list_of n f)
  unfolding list_of Every
  every_of zero f e = tt
  every_of (suc n) f e = (e 0 (omega arith), every_of n (λ r. f (suc r)) (λ x h. e (suc x) (omega arith)))

  below_at : (n i : ℕ) → i < n → Every P (steps_below n) → Every P (steps_on i)
  unfolding steps_below
  below_at zero i h e = absurd (omega arith)
  below_at (suc n) i h e =
      ⊎_elim (λ q. rw q (every-right (steps_below n) (steps_on n) e)) (λ l. below_at n i l (every-left (steps_below n) (steps_on n) e)) (below-cases h)

  -- what every step of the order has: `next`, and each verb with its numbers on each of the 32 ids
  pub record All : Type 0 where
    pub next : P (record { verb = next_verb; id = 0; number = 0 })
    pub finish : (i : ℕ) → i < 32 → P (record { verb = finish_verb; id = i; number = 0 })
    pub enter : (i x : ℕ) → i < 32 → x < 16 → P (record { verb = enter_verb; id = i; number = x })
    pub end : (i x : ℕ) → i < 32 → x < 32 → P (record { verb = end_verb; id = i; number = x })
    pub fire : (i x : ℕ) → i < 32 → x < 16 → P (record { verb = fire_verb; id = i; number = x })

  pub all-in-order : Every P in_order → All
  unfolding in_order steps_on
  all-in-order e =
      record {
        next = run_at next_verb 0 1 (every-left (run next_verb 0 1) (steps_below 32) e) 0 (omega arith);
        finish = λ i h. run_at finish_verb i 1 (every-left (run finish_verb i 1) _ (before-end i h)) 0 (omega arith);
        enter = λ i x h l. run_at enter_verb i 16 (every-right (run finish_verb i 1) _ (before-end i h)) x l;
        end = λ i x h l. run_at end_verb i 32 (every-right (run finish_verb i 1 ++ run enter_verb i 16) _ (before-fire i h)) x l;
        fire = λ i x h l. run_at fire_verb i 16 (every-right (run finish_verb i 1 ++ run enter_verb i 16 ++ run end_verb i 32) _ (on i h)) x l;
      }
    where
      on : (i : ℕ) → i < 32 → Every P (steps_on i)
      on i h = below_at 32 i h (every-right (run next_verb 0 1) (steps_below 32) e)

      before-fire : (i : ℕ) → i < 32 → Every P (run finish_verb i 1 ++ run enter_verb i 16 ++ run end_verb i 32)
      before-fire i h = every-left (run finish_verb i 1 ++ run enter_verb i 16 ++ run end_verb i 32) (run fire_verb i 16) (on i h)

      before-end : (i : ℕ) → i < 32 → Every P (run finish_verb i 1 ++ run enter_verb i 16)
      before-end i h = every-left (run finish_verb i 1 ++ run enter_verb i 16) (run end_verb i 32) (before-fire i h)

  -- and what has that, has P throughout
  on-every : All → (i : ℕ) → i < 32 → Every P (steps_on i)
  unfolding steps_on
  on-every all i h =
      every-both (run finish_verb i 1 ++ run enter_verb i 16 ++ run end_verb i 32) (run fire_verb i 16)
      (every-both (run finish_verb i 1 ++ run enter_verb i 16) (run end_verb i 32)
      (every-both (run finish_verb i 1) (run enter_verb i 16)
      (every_of 1 (λ x. record { verb = finish_verb; id = i; number = x }) (λ x l. let z : x ≡ 0 = omega arith in rw z (all.finish i h)))
      (every_of 16 (λ x. record { verb = enter_verb; id = i; number = x }) (λ x l. all.enter i x h l)))
      (every_of 32 (λ x. record { verb = end_verb; id = i; number = x }) (λ x l. all.end i x h l)))
      (every_of 16 (λ x. record { verb = fire_verb; id = i; number = x }) (λ x l. all.fire i x h l))

  below-every : All → (n : ℕ) → n ≤ 32 → Every P (steps_below n)
  unfolding steps_below Every
  below-every all zero h = tt
  below-every all (suc n) h = every-both (steps_below n) (steps_on n) (below-every all n (omega arith)) (on-every all n (omega arith))

  pub every-in-order : All → Every P in_order
  unfolding in_order
  every-in-order all =
      every-both (run next_verb 0 1) (steps_below 32)
      (every_of 1 (λ x. record { verb = next_verb; id = 0; number = x }) (λ x l. let z : x ≡ 0 = omega arith in rw z all.next))
      (below-every all 32 (omega arith))

-- a step that is refused, whatever numbers it has that its line has not
module _ (default : ℕ) (t : Tables) (p : Program) (c : Configuration) where
  abbrev pub Refuses : Step → Type 0
  Refuses s = step_check default t p c s ≢ 0

  next-alike : (i x : ℕ) → Refuses (record { verb = next_verb; id = 0; number = 0 }) → Refuses (record { verb = next_verb; id = i; number = x })
  unfolding step_check_with action
  next-alike i x r = r

  finish-alike : (i x : ℕ) → Refuses (record { verb = finish_verb; id = i; number = 0 }) → Refuses (record { verb = finish_verb; id = i; number = x })
  unfolding step_check_with action move_action
  finish-alike i x r = r

  module _ (s : Step) where
    -- s with its verb written out
    as-verb : (v : ℕ) → eqb s.verb v ≡ true → Refuses (record { verb = v; id = s.id; number = s.number }) → Refuses s
    as-verb v q r = subst (λ (x : ℕ). Refuses (record { verb = x; id = s.id; number = s.number })) (sym (eqb-true s.verb v q)) r

    by-verb : All Refuses → s.id < 32
        → cond (eqb s.verb fire_verb || eqb s.verb enter_verb) (place_ok s.number) (cond (eqb s.verb end_verb) (transition_ok s.number) (eqb s.verb finish_verb)) ≡ true
        → Refuses s
    by-verb all i l =
        by-test (eqb s.verb fire_verb) (λ v. as-verb fire_verb v (all.fire s.id s.number i (omega (arith, leb-true s.number 15 (rw v at l)))))
        (λ v. by-test (eqb s.verb enter_verb) (λ w. as-verb enter_verb w (all.enter s.id s.number i (omega (arith, leb-true s.number 15 (rw (v, w) at l)))))
        (λ w. by-test (eqb s.verb end_verb) (λ x. as-verb end_verb x (all.end s.id s.number i (omega (arith, leb-true s.number 31 (rw (v, w, x) at l)))))
        (λ x. as-verb finish_verb (rw (v, w, x) at l) (finish-alike s.id s.number (all.finish s.id i)))))

    pub refuses-all : Every Refuses in_order → step_lawful s ≡ true → Refuses s
    unfolding step_lawful
    refuses-all e law =
        let all = all-in-order Refuses e in
        by-test (eqb s.verb next_verb) (λ v. as-verb next_verb v (next-alike s.id s.number all.next))
        (λ v. let rest = or-not (eqb s.verb next_verb) _ law v in
        by-verb all (omega (arith, leb-true s.id 31 (and_left (id_ok s.id) _ rest))) (and_right (id_ok s.id) _ rest))
