-- The run of a plan: its actions one after the other, to the first that is refused; after the last, all allowed, the weak demands.
use Rattle.std.specs.Prelude.{true, false, not, List, [], ◌∷◌, ℕ, suc, eqb}
use Rattle.rules_spec.specs.Refusal.{◌⇒◌∣◌, allowed}
use Rattle.aeolus_model.specs.Model.{Universe, Configuration, weak}
use Rattle.aeolus_rules_spec.specs.Refusal.{unmet_at_the_end}
use Rattle.aeolus_rules_spec.specs.Correct.{holds}
use Rattle.aeolus_model.specs.Action.{Action}
use Rattle.aeolus_rules_spec.specs.Action.{act}

-- how many actions were allowed, 0 or the number, and the configuration that the report shows
pub record Ran : Type 0 where
  pub accepted : ℕ
  pub refused : ℕ
  pub configuration : Configuration

unfoldable pub one_more : Ran → Ran
one_more w = record { accepted = suc w.accepted; refused = w.refused; configuration = w.configuration }

unfoldable pub last_check : Universe → Configuration → ℕ
last_check u c = not (holds u c weak) ⇒ unmet_at_the_end ∣ allowed

unfoldable pub run : Universe → Configuration → List Action → Ran
run u c [] = record { accepted = 0; refused = last_check u c; configuration = c }
run u c (a ∷ rest) =
    elim (eqb (act u c a).refused 0) [
      | true ↦ one_more (run u (act u c a).configuration rest)
      | false ↦ record { accepted = 0; refused = (act u c a).refused; configuration = (act u c a).configuration }
    ]
