-- The next name for which there are bindings.
use Rattle.std.specs.Prelude.{true, ◌≡◌, ◌≢◌, ℕ, ◌≤◌, ◌<◌}
use Rattle.aeolus_model.specs.Model.{Universe, Configuration, type_of, name_of, kind_of, deployed, bound_at}

-- j is an interface of z, which is deployed
abbrev pub InUse : Universe → Configuration → ℕ → ℕ → Type 0
InUse u c z j = (deployed c z ≡ true) × (j < (type_of u (kind_of c z)).interfaces)

-- n is `best` at most, not before `from`, and not after any name from `from` on for which one of the interfaces P has bindings
pub record Next (u : Universe) (c : Configuration) (from best n : ℕ) (P : ℕ → ℕ → Type 0) : Type 0 where
  pub most : n ≤ best
  pub low : from ≤ best → from ≤ n
  pub told : (z j : ℕ) → P z j → bound_at c z j ≢ 0 → from ≤ name_of u (kind_of c z) j → n ≤ name_of u (kind_of c z) j
