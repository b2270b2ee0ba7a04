-- Among whom the users of a component are looked for: those that have a binding to it.
use Rattle.std.specs.Prelude.{true, List, ◌≡◌, ℕ, ◌<◌, get_or}
use Rattle.sets.specs.Test.{any_below}
use Rattle.sets.specs.Mask.{member, collect}
use Rattle.aeolus_model.specs.Model.{Universe, Configuration, type_of, kind_of, deployed, bound_at}
use Rattle.aeolus_rules_spec.specs.Correct.{employs}

-- the components to which y is bound for any interface
unfoldable pub targets_of : Universe → Configuration → ℕ → ℕ
targets_of u c y = collect 32 (λ z. any_below (type_of u (kind_of c y)).interfaces (λ j. member z (bound_at c y j)))

-- the same of every deployed component
unfoldable pub Targets : Universe → Configuration → List ℕ → Type 0
Targets u c targets = (y : ℕ) → y < 32 → deployed c y ≡ true → get_or targets y 0 ≡ targets_of u c y

-- every target of a deployed component is one of these
unfoldable pub Used : Universe → Configuration → ℕ → Type 0
Used u c used = (y z : ℕ) → y < 32 → z < 32 → deployed c y ≡ true → member z (targets_of u c y) ≡ true → member z used ≡ true

-- whoever requires anything of z now, and is bound to z for it, is one of these
unfoldable pub Users : Universe → Configuration → ℕ → ℕ → Type 0
Users u c z users = (p y : ℕ) → y < 32 → employs u c p z y ≡ true → member y users ≡ true
