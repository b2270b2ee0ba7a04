-- The five actions of Definition 4, their own conditions and effects, and what an action answers.
use Rattle.std.specs.Prelude.{not, cond, ℕ, eqb}
use Rattle.rules_spec.specs.Refusal.{◌⇒◌∣◌, allowed, or_number}
use Rattle.aeolus_model.specs.Action.{Action, new, del, change, bind, unbind}
use Rattle.aeolus_model.specs.Model.{Universe, Configuration, provision, strong}
use Rattle.aeolus_rules_spec.specs.Refusal.{overused, unmet}
use Rattle.aeolus_rules_spec.specs.Correct.{holds}
use Rattle.aeolus_rules_spec.specs.New.{new_check, added}
use Rattle.aeolus_rules_spec.specs.Del.{del_check, deleted}
use Rattle.aeolus_rules_spec.specs.Change.{change_check, changed}
use Rattle.aeolus_rules_spec.specs.Bind.{bind_check, joined}
use Rattle.aeolus_rules_spec.specs.Unbind.{unbind_check, parted}

-- the action's own condition: its number, 0 where it holds
unfoldable pub check : Universe → Configuration → Action → ℕ
check u c (new z k) = new_check c z
check u c (del z) = del_check c z
check u c (change z q s) = change_check u c z q s
check u c (bind r z y) = bind_check u c r z y
check u c (unbind r z y) = unbind_check u c r z y

-- what it does
unfoldable pub effect : Universe → Configuration → Action → Configuration
effect u c (new z k) = added u c z k
effect u c (del z) = deleted c z
effect u c (change z q s) = changed c z s
effect u c (bind r z y) = joined u c r z y
effect u c (unbind r z y) = parted u c r z y

-- "the configuration reached meets that document's definition over provisions and strong requirements": 68 over all components before 69
unfoldable pub reached_check : Universe → Configuration → ℕ
reached_check u c = not (holds u c provision) ⇒ overused ∣ not (holds u c strong) ⇒ unmet ∣ allowed

-- 68 and 69 are looked at only where the action's own condition holds
unfoldable pub number : Universe → Configuration → Action → ℕ
number u c a = or_number (check u c a) (reached_check u (effect u c a))

pub record Acted : Type 0 where
  pub refused : ℕ
  pub configuration : Configuration

-- refused with n and nothing changed, or with 0 the new configuration
abbrev pub settle : ℕ → Configuration → Configuration → Acted
settle n old next = cond (eqb n allowed) (record { refused = 0; configuration = next }) (record { refused = n; configuration = old })

unfoldable pub act : Universe → Configuration → Action → Acted
act u c a = settle (number u c a) c (effect u c a)
