-- A trial is the step itself, and a turn goes on while steps are refused.
-- Assumes nothing.
use mathlib.Core.Path.{◌≡◌, sym, ap, ◌∙◌}
use mathlib.Core.Logic.{◌≢◌, by_cases}
use mathlib.Core.List.{◌∷◌}
use Prim.Native.Nat.{ℕ, suc, ◌+◌, ◌-◌, ◌≤◌, ◌<◌}
use native.Mathlib.Omega.{arith}
use native.Mathlib.Decide.{ℕ_discrete}
use native.Mathlib.Numerals.{add-one}
use borrow.Author.Tests.{eq-eqb, ne_eqb, lt-ltb, le-ltb}
use Rattle.model.specs.declared.Tables.{Tables}
use Rattle.model.specs.declared.Program.{Program}
use Rattle.model.specs.declared.Step.{Step}
use Rattle.model.specs.declared.Configuration.{Configuration}
use Rattle.model.specs.declared.Stepped.{Stepped}
use Rattle.rules_spec.specs.Step.{step_check, step_to, step}
use Rattle.rules_spec.proofs.Walks.{step-on, step-stop}
use Rattle.model_walk_spec.specs.Order.{in_order}
use Rattle.model_walk_spec.specs.Walk.{Turn, first_of}
use Rattle.model_walk_lib.specs.Turns.{ordered_at, ordered_from, NumberedSo, turn_at, after_turn}
use Rattle.model_walk_lib.proofs.Ordered.{numbered-so}

module _ (default : ℕ) (t : Tables) (p : Program) (c : Configuration) where
  -- what a step answered
  module _ (s : Step) (m : Stepped) (is : m ≡ step default t p c s) where
    pub was-allowed : m.refused ≡ 0 → (step_check default t p c s ≡ 0) × (m.configuration ≡ step_to t p c s)
    was-allowed z =
        by_cases (ℕ_discrete (step_check default t p c s) 0)
        (λ e. (e, ap (λ (x : Stepped). x.configuration) (is ∙ step-on default t p c s e)))
        (λ n. absurd (n (sym (ap (λ (x : Stepped). x.refused) (is ∙ step-stop default t p c s n)) ∙ z)))

    pub was-refused : m.refused ≢ 0 → (step_check default t p c s ≢ 0) × (m.configuration ≡ c)
    was-refused n =
        by_cases (ℕ_discrete (step_check default t p c s) 0)
        (λ e. absurd (n (ap (λ (x : Stepped). x.refused) (is ∙ step-on default t p c s e))))
        (λ q. (q, ap (λ (x : Stepped). x.configuration) (is ∙ step-stop default t p c s q)))

  -- what is left from step k of the order on
  unfoldable pub rest : ℕ → Turn
  rest k = first_of default t p c (ordered_from k (2081 - k))

  pub turn-start : first_of default t p c in_order ≡ rest 0
  unfolding rest NumberedSo
  turn-start = ap (first_of default t p c) numbered-so

  more : (k : ℕ) → k < 2081 → ordered_from k (2081 - k) ≡ ordered_at k ∷ ordered_from (suc k) (2081 - suc k)
  unfolding ordered_from
  more k h = ap (ordered_from k) (let e : 2081 - k ≡ suc (2081 - suc k) = omega arith in e)

  module _ (k : ℕ) (h : k < 2081) where
    pub turn-takes : step_check default t p c (ordered_at k) ≡ 0 → turn_at k ≡ rest k
    unfolding rest first_of
    turn-takes e = rw (more k h, lt-ltb k 2081 h, eq-eqb (step_check default t p c (ordered_at k)) 0 e, first_of)

    pub turn-passes : step_check default t p c (ordered_at k) ≢ 0 → rest k ≡ rest (k + 1)
    unfolding rest first_of
    turn-passes n = rw (more k h, ne_eqb (step_check default t p c (ordered_at k)) 0 n, first_of, add-one k)

  pub turn-rests : (k : ℕ) → 2081 ≤ k → turn_at k ≡ rest k
  unfolding rest first_of ordered_from
  turn-rests k h = let e : 2081 - k ≡ 0 = omega arith in rw (le-ltb k 2081 h, e)

  -- where the turn has come to step k
  module _ (k : ℕ) (come : first_of default t p c in_order ≡ rest k) where
    pub taken-so : k < 2081 → (m : Stepped) → m ≡ step default t p c (ordered_at k) → m.refused ≡ 0
        → (turn_at k ≡ first_of default t p c in_order) × (m.configuration ≡ after_turn t p c (turn_at k))
    taken-so h m is z =
        let (e, after) = was-allowed (ordered_at k) m is z in
        (turn-takes k h e ∙ sym come, rw (lt-ltb k 2081 h) after)

    pub passed-so : k < 2081 → (m : Stepped) → m ≡ step default t p c (ordered_at k) → m.refused ≢ 0
        → (m.configuration ≡ c) × (first_of default t p c in_order ≡ rest (k + 1))
    passed-so h m is n = let (e, same) = was-refused (ordered_at k) m is n in (same, come ∙ turn-passes k h e)

    pub rested-so : 2081 ≤ k → (d : Configuration) → d ≡ c → (turn_at k ≡ first_of default t p c in_order) × (d ≡ after_turn t p c (turn_at k))
    rested-so h d e = (turn-rests k h ∙ sym come, rw (le-ltb k 2081 h) e)
