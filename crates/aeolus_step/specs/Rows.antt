-- Rows of bindings, sixteen a requirer: empty ones, and how many bindings stand in the first so many.
use Rattle.std.specs.Prelude.{◌≡◌, ℕ, ◌+◌, ◌*◌, ◌<◌, get_or, take}
use Rattle.aeolus_model.specs.Model.{Configuration}
use Rattle.aeolus_rules_spec.specs.Bind.{sizes}

-- the first n rows of z
unfoldable pub EmptyRows : Configuration → ℕ → ℕ → Type 0
EmptyRows c z n = (j : ℕ) → j < n → get_or c.bound (z * 16 + j) 0 ≡ 0

abbrev pub first_sizes : Configuration → ℕ → ℕ
first_sizes c n = sizes (take n c.bound)
