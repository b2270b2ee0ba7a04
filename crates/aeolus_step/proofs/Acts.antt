-- An action is a check of its own condition, and then what it reaches: refused and nothing changed, or made.
-- Assumes nothing.
use mathlib.Core.Path.{◌≡◌}
use mathlib.Core.Logic.{◌≢◌}
use Prim.Native.Nat.{ℕ}
use borrow.Author.Tests.{eq-eqb, ne_eqb}
use Rattle.aeolus_model.specs.Model.{Universe, Configuration}
use Rattle.aeolus_model.specs.Action.{Action}
use Rattle.aeolus_rules_spec.specs.Action.{check, effect, reached_check, number, Acted, settle, act}

abbrev acted : ℕ → Configuration → Acted
acted n c = record { refused = n; configuration = c }

-- m is the number of the configuration d that is reached
module _ (u : Universe) (c d next : Configuration) (m : ℕ) (e : m ≡ reached_check u d) (f : d ≡ next) where
  pub reach-refused : m ≢ 0 → acted m c ≡ settle (reached_check u next) c next
  reach-refused n = rw (← f, ← e, ne_eqb m 0 n)

  pub reach-made : m ≡ 0 → acted 0 d ≡ settle (reached_check u next) c next
  reach-made z = rw (← f, ← e, eq-eqb m 0 z)

module _ (u : Universe) (c : Configuration) (a : Action) (n : ℕ) (e : n ≡ check u c a) where
  pub act-refused : n ≢ 0 → acted n c ≡ act u c a
  unfolding act number
  act-refused d = rw (← e, ne_eqb n 0 d, ne_eqb n 0 d)

  pub act-reaches : n ≡ 0 → settle (reached_check u (effect u c a)) c (effect u c a) ≡ act u c a
  unfolding act number
  act-reaches z = rw (← e, eq-eqb n 0 z)
