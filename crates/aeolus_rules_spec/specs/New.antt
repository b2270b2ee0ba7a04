-- `new,z,T`: "z ∉ Z"; z is deployed with type T in T's initial state, with no binding.
use Rattle.std.specs.Prelude.{Bool, ℕ, set}
use Rattle.sets.specs.Mask.{with}
use Rattle.rules_spec.specs.Refusal.{◌⇒◌∣◌, allowed}
use Rattle.aeolus_model.specs.Model.{Universe, Configuration, type_of, deployed}
use Rattle.aeolus_rules_spec.specs.Refusal.{present}

unfoldable pub new_check : Configuration → ℕ → ℕ
new_check c z = deployed c z ⇒ present ∣ allowed

-- an absent component has no binding (Definition2), so none is made or taken away
unfoldable pub added : Universe → Configuration → ℕ → ℕ → Configuration
added u c z k = record { present = with z c.present; kinds = set c.kinds z k; states = set c.states z (type_of u k).initial; bound = c.bound }
