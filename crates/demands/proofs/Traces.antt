-- Two lists of actions with the same projection for each component have the same actions, each as often: whatever an action counts for, they
-- count for as much together, and so do the steps that do them.
-- Assumes nothing.
use mathlib.Core.Path.{◌≡◌, refl, sym, ap, ap₂, ◌∙◌}
use mathlib.Core.Bool.{true, false, false≢true}
use mathlib.Core.List.{List, [], ◌∷◌}
use Prim.Native.Nat.{ℕ, suc, ◌+◌}
use native.Mathlib.Omega.{arith}
use borrow.Author.Tests.{eq-eqb}
use Rattle.item_spec.proofs.Tests.{by-test}
use Rattle.model.specs.declared.Program.{Program}
use Rattle.model.specs.declared.Step.{Step}
use Rattle.rules_spec.specs.Action.{Action, add, del, pushb, con, dcon, wait, fire, end, enter, finish, move_action}
use Rattle.rules_spec.specs.Step.{is_next, action_at}
use Rattle.demands.specs.Agree.{names, deeds, naming}

-- what the actions count for together, where each counts for so much
unfoldable pub total : (Action → ℕ) → List Action → ℕ
total f [] = 0
total f (a ∷ ds) = f a + total f ds

swap : (a b n : ℕ) → a + (b + n) ≡ b + (a + n)
swap a b n = omega arith

naming-has : (i : ℕ) (a : Action) (ds : List Action) → names a i ≡ true → naming i (a ∷ ds) ≡ a ∷ naming i ds
unfolding naming
naming-has i a ds e = rw (e, naming)

naming-not : (i : ℕ) (a : Action) (ds : List Action) → names a i ≡ false → naming i (a ∷ ds) ≡ naming i ds
unfolding naming
naming-not i a ds e = rw (e, naming)

-- each action names a component
someone : (a : Action) → (i : ℕ) × (names a i ≡ true)
unfolding names
someone (add i k) = (i, eq-eqb i i refl)
someone (del i) = (i, eq-eqb i i refl)
someone (pushb i b) = (i, eq-eqb i i refl)
someone (con k) = (k.user, rw (eq-eqb k.user k.user refl))
someone (dcon k) = (k.user, rw (eq-eqb k.user k.user refl))
someone (wait w) = (w.id, eq-eqb w.id w.id refl)
someone (fire i p) = (i, eq-eqb i i refl)
someone (end i x) = (i, eq-eqb i i refl)
someone (enter i p) = (i, eq-eqb i i refl)
someone (finish i) = (i, eq-eqb i i refl)

-- a taken out of the actions ds, from before all that name one of its components
record TakenOut (a : Action) (ds : List Action) : Type 0 where
  rest : List Action
  counted : (f : Action → ℕ) → total f ds ≡ f a + total f rest
  others : (j : ℕ) → names a j ≡ false → naming j ds ≡ naming j rest
  named : (j : ℕ) → names a j ≡ true → (r : List Action) → naming j ds ≡ a ∷ r → naming j rest ≡ r

take_out : (a : Action) (i : ℕ) → names a i ≡ true → (ds : List Action) (r : List Action) → naming i ds ≡ a ∷ r → TakenOut a ds
unfolding naming total
take_out a i e [] r q = absurd (let z : ◌≡◌ {A = ℕ} 0 1 = cc in omega arith)
take_out a i e (b ∷ ds) r q = by-test (names b i) here (λ n. later n (take_out a i e ds r (sym (naming-not i b ds n) ∙ q)))
  where
    first : (b : Action) (j : ℕ) (r : List Action) → names b j ≡ true → naming j (b ∷ ds) ≡ a ∷ r → b ≡ a
    first b j r n q = let f = naming-has j b ds n in cc

    here : names b i ≡ true → TakenOut a (b ∷ ds)
    here n =
        let same = first b i r n q in
        record {
          rest = ds;
          counted = λ f. ap (λ (x : Action). f x + total f ds) same;
          others = λ j m. naming-not j b ds (rw same m);
          named = λ j m r q. let f = naming-has j b ds (rw same m) in cc;
        }

    later : names b i ≡ false → TakenOut a ds → TakenOut a (b ∷ ds)
    later n x =
        record {
          rest = b ∷ x.rest;
          counted = λ f. ap (λ (n : ℕ). f b + n) (x.counted f) ∙ swap (f b) (f a) (total f x.rest);
          others = λ j m.
              by-test (names b j) (λ y. naming-has j b ds y ∙ ap (λ (l : List Action). b ∷ l) (x.others j m) ∙ sym (naming-has j b x.rest y))
              (λ y. naming-not j b ds y ∙ x.others j m ∙ sym (naming-not j b x.rest y));
          named = λ j m r q.
              by-test (names b j) (λ y. absurd (false≢true (sym n ∙ ap (λ (d : Action). names d i) (first b j r y q) ∙ e)))
              (λ y. naming-not j b x.rest y ∙ x.named j m r (sym (naming-not j b ds y) ∙ q));
        }

same_total : (f : Action → ℕ) (ds es : List Action) → ((i : ℕ) → naming i ds ≡ naming i es) → total f ds ≡ total f es
unfolding naming total
same_total f [] [] same = refl
same_total f [] (b ∷ es) same = let (i, e) = someone b in absurd (let x = naming-has i b es e in let y = same i in let z : ◌≡◌ {A = ℕ} 0 1 = cc in omega arith)
same_total f (a ∷ ds) es same =
    let (i, e) = someone a in
    let x = take_out a i e es (naming i ds) (sym (same i) ∙ naming-has i a ds e) in
    ap (λ (n : ℕ). f a + n) (same_total f ds x.rest (λ j. alike x j)) ∙ sym (x.counted f)
  where
    alike : (x : TakenOut a es) (j : ℕ) → naming j ds ≡ naming j x.rest
    alike x j =
        by-test (names a j) (λ n. sym (x.named j n (naming j ds) (sym (same j) ∙ naming-has j a ds n)))
        (λ n. sym (naming-not j a ds n) ∙ same j ∙ x.others j n)

-- ---- the steps that do them

unfoldable pub tally : (Step → ℕ) → List Step → ℕ
tally g [] = 0
tally g (s ∷ ss) = g s + tally g ss

-- a step counts for what it does
module _ (p : Program) (f : Action → ℕ) (g : Step → ℕ) (next : (n : ℕ) (s : Step) → is_next s ≡ true → f (action_at p n) ≡ g s)
    (moves : (s : Step) → is_next s ≡ false → f (move_action s) ≡ g s) where
  total-deeds : (ss : List Step) (n : ℕ) → total f (deeds p n ss) ≡ tally g ss
  unfolding total tally deeds
  total-deeds [] n = refl
  total-deeds (s ∷ ss) n =
      by-test (is_next s)
      (λ e. rw (e, deeds) (ap₂ (λ (a b : ℕ). a + b) (next n s e) (total-deeds ss (suc n))))
      (λ e. rw (e, deeds) (ap₂ (λ (a b : ℕ). a + b) (moves s e) (total-deeds ss n)))

  pub same-tally : (n : ℕ) (ss us : List Step) → ((i : ℕ) → naming i (deeds p n ss) ≡ naming i (deeds p n us)) → tally g ss ≡ tally g us
  same-tally n ss us same = sym (total-deeds ss n) ∙ same_total f (deeds p n ss) (deeds p n us) same ∙ total-deeds us n
