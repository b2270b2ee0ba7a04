-- `del,z`: z ∈ Z; z goes, and "B' = {⟨r, z1, z2⟩ ∈ B | z ∉ {z1, z2}}".
use Rattle.std.specs.Prelude.{not, cond, List, [], ◌∷◌, ℕ, suc, ◌/◌, eqb, set}
use Rattle.sets.specs.Mask.{without, only}
use Rattle.rules_spec.specs.Refusal.{◌⇒◌∣◌, allowed}
use Rattle.aeolus_model.specs.Model.{Configuration, deployed}
use Rattle.aeolus_rules_spec.specs.Refusal.{absent}

unfoldable pub del_check : Configuration → ℕ → ℕ
del_check c z = not (deployed c z) ⇒ absent ∣ allowed

-- the rows of bindings from row i on, sixteen a requirer, where z neither requires nor provides any more
unfoldable pub freed : ℕ → ℕ → List ℕ → List ℕ
freed z i [] = []
freed z i (m ∷ ms) = cond (eqb (i / 16) z) 0 (without m (only z)) ∷ freed z (suc i) ms

unfoldable pub deleted : Configuration → ℕ → Configuration
deleted c z = record { present = without c.present (only z); kinds = set c.kinds z 0; states = set c.states z 0; bound = freed z 0 c.bound }
