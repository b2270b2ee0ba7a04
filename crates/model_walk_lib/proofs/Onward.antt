-- A model walk that has come to step k: the steps so far, and what is left of it.
-- Assumes nothing.
use mathlib.Core.Path.{◌≡◌, refl, sym, ap, ◌∙◌}
use mathlib.Core.List.{List, [], ◌∷◌, ◌++◌, append_assoc, append-nil}
use Prim.Native.Nat.{ℕ, zero, suc, ◌+◌, ◌-◌, ◌≤◌, ◌<◌}
use native.Mathlib.Omega.{arith}
use native.Mathlib.Numerals.{add-one}
use lib.ListN.{length, take, set}
use borrow.Author.Tests.{lt-ltb, le-ltb}
use Rattle.model.specs.declared.Tables.{Tables}
use Rattle.model.specs.declared.Program.{Program}
use Rattle.model.specs.declared.Step.{Step}
use Rattle.model.specs.declared.Answer.{Answer}
use Rattle.model.specs.declared.Configuration.{Configuration}
use Rattle.model.specs.declared.Walked.{Walked}
use Rattle.model.proofs.View.{length-list}
use Rattle.read_spec.specs.Fill.{with_step}
use Rattle.rules_spec.specs.Step.{step_check, step_to}
use Rattle.rules_spec.specs.Walk.{one_more, walk}
use Rattle.rules_spec.proofs.Walks.{walk-on}
use Rattle.words.specs.Rows.{row}
use Rattle.words.specs.Words.{step_in, answer_in}
use Rattle.model_walk_spec.specs.Order.{in_order}
use Rattle.model_walk_spec.specs.Walk.{takes, rests, first_of, model_from, model_steps, model_reached}
use Rattle.model_walk_spec.proofs.Claims.{first-allowed}
use Rattle.model_walk_lib.specs.Turns.{ordered_at, turn_at, after_turn}

take_next : {A : Type 0} (xs : List A) (k : ℕ) (s : A) → k < length xs → take (suc k) (set xs k s) ≡ take k xs ++ (s ∷ [])
take_next [] k s h = absurd (omega arith)
take_next (x ∷ xs) zero s h = refl
take_next (x ∷ xs) (suc k) s h = ap (◌∷◌ x) (take_next xs k s (omega arith))

pub take-set : {A : Type 0} (xs : List A) (k : ℕ) (s : A) → k < length xs → take (k + 1) (set xs k s) ≡ take k xs ++ (s ∷ [])
take-set xs k s h = rw (add-one k) (take_next xs k s h)

pub answer-full : (ws : List ℕ) → length (answer_in ws).steps ≡ 1024
unfolding answer_in
answer-full ws = length-list 1024 (λ k. step_in k (row ws 0 3 k))

module _ (default : ℕ) (t : Tables) (p : Program) (c₀ : Configuration) where
  -- where the walk has come to c with the first k steps of xs
  pub record Come (k : ℕ) (xs : List Step) (c : Configuration) : Type 0 where
    pub steps : model_steps default t p c₀ ≡ take k xs ++ model_from default t p (1024 - k) c
    pub reached : model_reached default t p c₀ ≡ (walk default t p c (model_from default t p (1024 - k) c)).configuration

  pub come-start : (xs : List Step) → Come 0 xs c₀
  come-start xs = record { steps = refl; reached = refl }

  module _ (k : ℕ) (xs : List Step) (c : Configuration) (come : Come k xs c) where
    -- the turn rests
    pub come-rests : k < 1024 → first_of default t p c in_order ≡ rests → (take k xs ≡ model_steps default t p c₀) × (c ≡ model_reached default t p c₀)
    unfolding model_from walk
    come-rests h e =
        let none : model_from default t p (1024 - k) c ≡ [] = ap (λ (n : ℕ). model_from default t p n c) (let q : 1024 - k ≡ suc (1024 - suc k) = omega arith in q) ∙ rw (e, model_from) in
        (sym (come.steps ∙ rw none (append-nil (take k xs))), sym (come.reached ∙ rw none refl))

    pub come-end : 1024 ≤ k → (take k xs ≡ model_steps default t p c₀) × (c ≡ model_reached default t p c₀)
    unfolding model_from walk
    come-end h =
        let none : model_from default t p (1024 - k) c ≡ [] = ap (λ (n : ℕ). model_from default t p n c) (let q : 1024 - k ≡ 0 = omega arith in q) in
        (sym (come.steps ∙ rw none (append-nil (take k xs))), sym (come.reached ∙ rw none refl))

    -- the turn takes s
    pub come-more : k < 1024 → length xs ≡ 1024 → (s : Step) → first_of default t p c in_order ≡ takes s → Come (k + 1) (set xs k s) (step_to t p c s)
    unfolding model_from walk one_more
    come-more h full s e =
        let more : model_from default t p (1024 - k) c ≡ s ∷ model_from default t p (1024 - (k + 1)) (step_to t p c s)
        = ap (λ (n : ℕ). model_from default t p n c) (let q : 1024 - k ≡ suc (1024 - (k + 1)) = omega arith in q) ∙ rw (e, model_from) in
        let ok : step_check default t p c s ≡ 0 = first-allowed default t p c in_order s e in
        record {
          steps = come.steps ∙ rw (more, take-set xs k s (omega arith)) (sym (append_assoc (take k xs) (s ∷ []) _));
          reached = come.reached ∙ rw more (ap (λ (w : Walked). w.configuration) (walk-on default t p c s (model_from default t p (1024 - (k + 1)) (step_to t p c s)) ok));
        }

    -- by the number that the turn answered, and the configuration after it
    module _ (at : ℕ) (d : Configuration) (is : turn_at at ≡ first_of default t p c in_order) (after : d ≡ after_turn t p c (turn_at at)) (h : k < 1024) where
      pub rest-so : 2081 ≤ at → (take k xs ≡ model_steps default t p c₀) × (d ≡ model_reached default t p c₀)
      rest-so l =
          let e : turn_at at ≡ rests = rw (le-ltb at 2081 l) in
          let (steps, reached) = come-rests h (sym is ∙ e) in
          (steps, after ∙ rw e reached)

      pub more-so : at < 2081 → length xs ≡ 1024 → (s : Step) → s ≡ ordered_at at → (a : Answer) → Come (k + 1) (with_step (record { steps = xs; count = a.count }) k s).steps d
      unfolding with_step
      more-so l full s q a =
          let e : turn_at at ≡ takes (ordered_at at) = rw (lt-ltb at 2081 l) in
          rw (after, e, q) (come-more h full (ordered_at at) (sym is ∙ e))
