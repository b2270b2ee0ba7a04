-- `change,z,q1,q2`: "C[z].state = q1 and (q1, q2) ∈ C[z].trans"; z is in q2.
use Rattle.std.specs.Prelude.{not, ℕ, eqb, set}
use Rattle.sets.specs.Mask.{member}
use Rattle.rules_spec.specs.Refusal.{◌⇒◌∣◌, allowed}
use Rattle.aeolus_model.specs.Model.{Universe, Configuration, kind_of, state_of, deployed, to_of}
use Rattle.aeolus_rules_spec.specs.Refusal.{absent, other_state, no_such_change}

unfoldable pub change_check : Universe → Configuration → ℕ → ℕ → ℕ → ℕ
change_check u c z q s =
    not (deployed c z) ⇒ absent
    ∣ not (eqb (state_of c z) q) ⇒ other_state
    ∣ not (member s (to_of u (kind_of c z) q)) ⇒ no_such_change
    ∣ allowed

unfoldable pub changed : Configuration → ℕ → ℕ → Configuration
changed c z s = record { present = c.present; kinds = c.kinds; states = set c.states z s; bound = c.bound }
