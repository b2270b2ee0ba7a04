-- `unbind,r,z1,z2`: "⟨r, z1, z2⟩ ∈ B"; it is refused with 66 only, for absent ends too. The triple goes.
use Rattle.std.specs.Prelude.{not, ℕ}
use Rattle.sets.specs.Mask.{without, only}
use Rattle.rules_spec.specs.Refusal.{◌⇒◌∣◌, allowed}
use Rattle.aeolus_model.specs.Model.{Universe, Configuration, bound}
use Rattle.aeolus_rules_spec.specs.Refusal.{not_bound}
use Rattle.aeolus_rules_spec.specs.Bind.{rebound}

unfoldable pub unbind_check : Universe → Configuration → ℕ → ℕ → ℕ → ℕ
unbind_check u c r z y = not (bound u c r z y) ⇒ not_bound ∣ allowed

unfoldable pub parted : Universe → Configuration → ℕ → ℕ → ℕ → Configuration
parted u c r z y = rebound u c r z (λ m. without m (only y))
