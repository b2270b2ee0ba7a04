-- The model walk is allowed throughout, and where it is short no step is left that is allowed.
-- Assumes nothing.
use mathlib.Core.Path.{◌≡◌, refl, sym, ap, subst, ◌∙◌}
use mathlib.Core.Logic.{◌≢◌}
use mathlib.Core.List.{List, [], ◌∷◌, ◌++◌}
use Prim.Native.Nat.{ℕ, zero, suc, ◌≤◌, ◌<◌}
use native.Mathlib.Omega.{arith}
use lib.Dec.{eqb}
use lib.ListN.{length, length-append}
use borrow.Author.Tests.{eqb-true, eqb-false, le-leb}
use Rattle.item_spec.proofs.Tests.{by-test}
use Rattle.model.specs.declared.Tables.{Tables}
use Rattle.model.specs.declared.Program.{Program}
use Rattle.model.specs.declared.Step.{Step}
use Rattle.model.specs.declared.Configuration.{Configuration}
use Rattle.model.specs.declared.Walked.{Walked}
use Rattle.rules_spec.specs.Step.{step_check, step_to}
use Rattle.rules_spec.specs.Walk.{one_more, walk}
use Rattle.rules_spec.proofs.Walks.{walk-on}
use Rattle.write_spec.specs.Kinds.{step_fault}
use Rattle.write_spec.specs.Cleared.{spoken_step}
use Rattle.write_spec.specs.Steps.{SaidStep, Every}
use Rattle.model_walk_spec.specs.Order.{in_order}
use Rattle.model_walk_spec.specs.Walk.{Turn, takes, rests, first_of, model_from, most_steps}
use Rattle.model_walk_spec.specs.Claims.{AllAreAllowed, EndsWhereNoneIsAllowed, StepsAreSaid, EachIsTheFirstAllowed}
use Rattle.model_walk_spec.proofs.Order.{All, Refuses, refuses-all, every-in-order}

module _ (default : ℕ) (t : Tables) (p : Program) where
  -- what the first of some steps tells: it is allowed, or none is
  abbrev Turned : Configuration → List Step → Turn → Type 0
  Turned c ss (takes s) = step_check default t p c s ≡ 0
  Turned c ss rests = Every (Refuses default t p c) ss

  first-tells : (c : Configuration) (ss : List Step) → Turned c ss (first_of default t p c ss)
  unfolding first_of Every
  first-tells c [] = tt
  first-tells c (s ∷ ss) =
      by-test (eqb (step_check default t p c s) 0) (λ e. rw (e, first_of) (eqb-true _ 0 e)) (λ e. rw (e, first_of) (more (first_of default t p c ss) (eqb-false _ 0 e) (first-tells c ss)))
    where
      more : (u : Turn) → Refuses default t p c s → Turned c ss u → Turned c (s ∷ ss) u
      more (takes x) r h = h
      more rests r h = (r, h)

  -- w is what the walk of k steps comes to, at most n
  record Model (n k : ℕ) (w : Walked) : Type 0 where
    allowed : w.refused ≡ 0
    all : w.accepted ≡ k
    ends : k < n → Every (Refuses default t p w.configuration) in_order

  abbrev ModelOf : ℕ → Configuration → List Step → Type 0
  ModelOf n c ss = Model n (length ss) (walk default t p c ss)

  longer : (n : ℕ) (c : Configuration) (s : Step) (ss : List Step) → step_check default t p c s ≡ 0 → ModelOf n (step_to t p c s) ss → ModelOf (suc n) c (s ∷ ss)
  unfolding one_more
  longer n c s ss e m =
      subst (Model (suc n) (suc (length ss))) (sym (walk-on default t p c s ss e))
      (record { allowed = m.allowed; all = ap suc m.all; ends = λ l. m.ends (omega arith) })

  is-model : (n : ℕ) (c : Configuration) → ModelOf n c (model_from default t p n c)
  unfolding model_from walk
  is-model zero c = record { allowed = refl; all = refl; ends = λ l. absurd (omega arith) }
  is-model (suc n) c = turned (first_of default t p c in_order) (first-tells c in_order) (is-model n)
    where
      turned : (u : Turn) → Turned c in_order u → ((d : Configuration) → ModelOf n d (model_from default t p n d))
          → ModelOf (suc n) c (elim u [ takes s ↦ s ∷ model_from default t p n (step_to t p c s) | rests ↦ [] ])
      turned (takes s) e f = longer n c s (model_from default t p n (step_to t p c s)) e (f (step_to t p c s))
      turned rests e f = record { allowed = refl; all = refl; ends = λ l. e }

pub all-are-allowed : AllAreAllowed
unfolding AllAreAllowed
all-are-allowed default t p c = let m = is-model default t p most_steps c in (m.allowed, m.all)

pub ends-where-none-is-allowed : EndsWhereNoneIsAllowed
unfolding EndsWhereNoneIsAllowed
ends-where-none-is-allowed default t p c s l law = refuses-all default t p _ s ((is-model default t p most_steps c).ends l) law

-- ---- lines say all of it
all_said : All SaidStep
unfolding step_fault spoken_step
all_said = record {
  next = (refl, refl);
  finish = λ i h. (rw (le-leb i 31 (omega arith)), refl);
  enter = λ i x h l. (rw (le-leb i 31 (omega arith), le-leb x 15 (omega arith)), refl);
  end = λ i x h l. (rw (le-leb i 31 (omega arith), le-leb x 31 (omega arith)), refl);
  fire = λ i x h l. (rw (le-leb i 31 (omega arith), le-leb x 15 (omega arith)), refl);
}

module _ (default : ℕ) (t : Tables) (p : Program) where
  abbrev Taken : (Step → Type 0) → Turn → Type 0
  Taken P (takes s) = P s
  Taken P rests = Unit {0}

  first-in : (P : Step → Type 0) (c : Configuration) (ss : List Step) → Every P ss → Taken P (first_of default t p c ss)
  unfolding first_of Every
  first-in P c [] e = tt
  first-in P c (s ∷ ss) (q, e) = by-test (eqb (step_check default t p c s) 0) (λ z. rw (z, first_of) q) (λ z. rw (z, first_of) (first-in P c ss e))

  record Said (n : ℕ) (ss : List Step) : Type 0 where
    few : length ss ≤ n
    every : Every SaidStep ss

  is_said : (n : ℕ) (c : Configuration) → Said n (model_from default t p n c)
  unfolding model_from Every
  is_said zero c = record { few = omega arith; every = tt }
  is_said (suc n) c = turned (first_of default t p c in_order) (first-in SaidStep c in_order (every-in-order SaidStep all_said)) (is_said n)
    where
      turned : (u : Turn) → Taken SaidStep u → ((d : Configuration) → Said n (model_from default t p n d))
          → Said (suc n) (elim u [ takes s ↦ s ∷ model_from default t p n (step_to t p c s) | rests ↦ [] ])
      turned (takes s) q f = let r = f (step_to t p c s) in record { few = omega (arith, r.few); every = (q, r.every) }
      turned rests q f = record { few = omega arith; every = tt }

pub steps-are-said : StepsAreSaid
unfolding StepsAreSaid
steps-are-said default t p c = let r = is_said default t p most_steps c in record { few = r.few; every = r.every }

-- the step that a turn takes is allowed
pub first-allowed : (default : ℕ) (t : Tables) (p : Program) (c : Configuration) (ss : List Step) (s : Step) → first_of default t p c ss ≡ takes s → step_check default t p c s ≡ 0
first-allowed default t p c ss s e = rw e at (first-tells default t p c ss)

-- ---- the first of them
rests-takes : {s : Step} → rests ≡ takes s → ⊥
rests-takes {s} e = let z : ◌≡◌ {A = ℕ} 0 1 = cc in omega arith

same_takes : {a b : Step} → takes a ≡ takes b → a ≡ b
same_takes {a} {b} e = cc

none_more : (us : List Step) (s : Step) (after : List Step) → [] ≡ us ++ s ∷ after → ⊥
none_more us s after e = let z = ap length e ∙ length-append us (s ∷ after) in omega (arith, z)

head-same : {x y : Step} {xs ys : List Step} → x ∷ xs ≡ y ∷ ys → x ≡ y
head-same {x} {y} {xs} {ys} e = cc

tail-same : {x y : Step} {xs ys : List Step} → x ∷ xs ≡ y ∷ ys → xs ≡ ys
tail-same {x} {y} {xs} {ys} e = cc

module _ (default : ℕ) (t : Tables) (p : Program) where
  -- the steps before the one that is taken, and those after it
  record Split (c : Configuration) (ss : List Step) (s : Step) : Type 0 where
    sooner : List Step
    later : List Step
    order : ss ≡ sooner ++ s ∷ later
    refused : Every (λ m. step_check default t p c m ≢ 0) sooner

  first-splits : (c : Configuration) (ss : List Step) (s : Step) → first_of default t p c ss ≡ takes s → Split c ss s
  unfolding first_of Every
  first-splits c [] s e = absurd (rests-takes e)
  first-splits c (x ∷ ss) s e =
      by-test (eqb (step_check default t p c x) 0)
      (λ q. let z : x ≡ s = same_takes (rw (q, first_of) at e) in record { sooner = []; later = ss; order = ap (λ (y : Step). y ∷ ss) z; refused = tt })
      (λ q. more (eqb-false _ 0 q) (first-splits c ss s (rw (q, first_of) at e)))
    where
      more : step_check default t p c x ≢ 0 → Split c ss s → Split c (x ∷ ss) s
      more r k = record { sooner = x ∷ k.sooner; later = k.later; order = ap (◌∷◌ x) k.order; refused = (r, k.refused) }

  -- the turn at each point of the walk
  turn_at : (n : ℕ) (c : Configuration) (before : List Step) (s : Step) (after : List Step) → model_from default t p n c ≡ before ++ s ∷ after
      → first_of default t p (walk default t p c before).configuration in_order ≡ takes s
  unfolding model_from walk one_more
  turn_at zero c before s after e = absurd (none_more before s after e)
  turn_at (suc n) c before s after e = go (first_of default t p c in_order) refl before e (λ d us f. turn_at n d us s after f)
    where
      go : (u : Turn) → first_of default t p c in_order ≡ u → (us : List Step) → elim u [ takes x ↦ x ∷ model_from default t p n (step_to t p c x) | rests ↦ [] ] ≡ us ++ s ∷ after
          → ((d : Configuration) (vs : List Step) → model_from default t p n d ≡ vs ++ s ∷ after → first_of default t p (walk default t p d vs).configuration in_order ≡ takes s)
          → first_of default t p (walk default t p c us).configuration in_order ≡ takes s
      go (takes x) q [] f again = q ∙ ap takes (head-same f)
      go (takes x) q (y ∷ us) f again =
          let ok : step_check default t p c x ≡ 0 = first-allowed default t p c in_order x q in
          let z : x ≡ y = head-same f in
          rw (← z, walk-on default t p c x us ok) (again (step_to t p c x) us (tail-same f))
      go rests q us f again = absurd (none_more us s after f)

pub each-is-the-first-allowed : EachIsTheFirstAllowed
unfolding EachIsTheFirstAllowed
each-is-the-first-allowed default t p c before s after e =
    let d = (walk default t p c before).configuration in
    let q = turn_at default t p most_steps c before s after e in
    let k = first-splits default t p d in_order s q in
    record { sooner = k.sooner; later = k.later; order = k.order; refused = k.refused; allowed = first-allowed default t p d in_order s q }
