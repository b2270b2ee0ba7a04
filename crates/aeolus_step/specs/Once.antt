-- That no other outcome fits the promises of one action and of a run: the numbers, and every word of the configuration.
use Rattle.std.specs.Prelude.{ℕ, List, ◌≡◌, length}
use Rattle.aeolus_model.specs.Model.{Universe, Configuration}
use Rattle.aeolus_model.specs.Action.{Action}
use Rattle.aeolus_model.specs.Words.{configuration_in}
use Rattle.aeolus_rules_spec.specs.Action.{Acted, act}
use Rattle.aeolus_rules_spec.specs.Run.{Ran, run}
use Rattle.aeolus_step.specs.declared.Passed.{Passed}

abbrev pub acted_in : ℕ → List ℕ → Acted
acted_in n ws = record { refused = n; configuration = configuration_in ws }

abbrev pub ran_in : Passed → List ℕ → Ran
ran_in p ws = record { accepted = p.accepted; refused = p.refused; configuration = configuration_in ws }

-- `act`
unfoldable pub NoOtherAct : Type 0
NoOtherAct = (u : Universe) (c : Configuration) (a : Action) (n m : ℕ) (ws vs : List ℕ) → length ws ≡ 577 → length vs ≡ 577
    → acted_in n ws ≡ act u c a → acted_in m vs ≡ act u c a → (n ≡ m) × (ws ≡ vs)

-- `run`
unfoldable pub NoOtherRun : Type 0
NoOtherRun = (u : Universe) (c : Configuration) (acts : List Action) (p q : Passed) (ws vs : List ℕ) → length ws ≡ 577 → length vs ≡ 577
    → ran_in p ws ≡ run u c acts → ran_in q vs ≡ run u c acts → (p ≡ q) × (ws ≡ vs)
