-- A run that has come to step i: what is left of it, with i actions more.
-- Assumes nothing.
use mathlib.Core.Path.{◌≡◌, refl, ap, ◌∙◌}
use mathlib.Core.Logic.{◌≢◌}
use mathlib.Core.List.{List, [], ◌∷◌, map}
use Prim.Native.Nat.{ℕ, zero, suc, ◌+◌, ◌≤◌, ◌<◌, min}
use native.Mathlib.Nat.{zero-add, add-zero, add-suc, suc-add, lt_of_lt_of_le, min-le_left}
use native.Mathlib.Numerals.{add-one}
use borrow.Author.Tests.{eq-eqb, ne_eqb}
use lib.ListN.{length, get_or, take, drop, length-take, length-map, drop_of_length-le}
use lib.Seq.{drop-cons, get_or-take}
use Rattle.model.proofs.View.{length-list}
use Rattle.aeolus_model.specs.Model.{Universe, Configuration}
use Rattle.aeolus_model.specs.declared.Step.{Step}
use Rattle.aeolus_model.specs.Action.{Plan, Action, no_step, step_of, action_of, actions_of}
use Rattle.aeolus_model.specs.Words.{plan_in}
use Rattle.aeolus_rules_spec.specs.Action.{Acted, act}
use Rattle.aeolus_rules_spec.specs.Run.{Ran, one_more, last_check, run}

pub plan-long : (ws : List ℕ) → length (plan_in ws).steps ≡ 1024
unfolding plan_in
plan-long ws = length-list 1024 _

get_d_map : (xs : List Step) (i : ℕ) → get_or (map action_of xs) i (action_of no_step) ≡ action_of (get_or xs i no_step)
get_d_map [] i = refl
get_d_map (x ∷ xs) zero = refl
get_d_map (x ∷ xs) (suc i) = get_d_map xs i

-- the actions that are left at step i: none, or the one that is due and those after it
module _ (p : Plan) (full : length p.steps ≡ 1024) (i : ℕ) where
  actions-length : length (actions_of p) ≡ min p.count 1024
  actions-length = length-map (take p.count p.steps) action_of ∙ length-take p.count p.steps ∙ ap (min p.count) full

  none_left : min p.count 1024 ≤ i → drop i (actions_of p) ≡ []
  none_left h = drop_of_length-le (actions_of p) {i = i} (rw actions-length h)

  one_left : i < min p.count 1024 → drop i (actions_of p) ≡ action_of (step_of p i) ∷ drop (suc i) (actions_of p)
  one_left within =
      drop-cons (actions_of p) i (action_of no_step) (rw actions-length within)
      ∙ ap (λ (a : Action). a ∷ drop (suc i) (actions_of p))
      (get_d_map (take p.count p.steps) i ∙ ap action_of (get_or-take p.count p.steps i no_step (lt_of_lt_of_le within (min-le_left p.count 1024))))

abbrev ahead : ℕ → Ran → Ran
ahead i w = record { accepted = i + w.accepted; refused = w.refused; configuration = w.configuration }

-- what is left from step i on, where the run has come to c
unfoldable pub rest : Universe → Plan → ℕ → Configuration → Ran
rest u p i c = ahead i (run u c (drop i (actions_of p)))

module _ (u : Universe) (p : Plan) (c : Configuration) where
  pub run-start : run u c (actions_of p) ≡ rest u p 0 c
  unfolding rest
  run-start = rw zero-add

  module _ (full : length p.steps ≡ 1024) (i : ℕ) where
    pub run_end : min p.count 1024 ≤ i → rest u p i c ≡ record { accepted = i; refused = last_check u c; configuration = c }
    unfolding rest run
    run_end h = rw (none_left p full i h, add-zero)

    module _ (m : Acted) (step : Step) (within : i < min p.count 1024) (due : step ≡ step_of p i) (came : m ≡ act u c (action_of step)) where
      is : m ≡ act u c (action_of (step_of p i))
      is = came ∙ ap (λ (x : Step). act u c (action_of x)) due

      pub run-refused : m.refused ≢ 0 → rest u p i c ≡ record { accepted = i; refused = m.refused; configuration = m.configuration }
      unfolding rest run
      run-refused d = rw (one_left p full i within, run, ← is, ne_eqb m.refused 0 d, ← is, add-zero)

      pub run_more : m.refused ≡ 0 → rest u p i c ≡ rest u p (i + 1) m.configuration
      unfolding rest run one_more
      run_more e = rw (one_left p full i within, run, ← is, eq-eqb m.refused 0 e, ← is, add-suc, add-one, suc-add)
