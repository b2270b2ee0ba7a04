-- Definition 3 of document 003, in its own words, and that the test of it is exact.
use Rattle.std.specs.Prelude.{true, false, List, [], ◌∷◌, ◌≡◌, ◌≢◌, ◌⊎◌, ◌↔◌, ℕ, zero, suc, ◌≤◌, ◌<◌, length}
use Rattle.aeolus_model.specs.Model.{Universe, Configuration, provision, weak, strong, deployed, number_in, is_active, bound, NamesDiffer}
use Rattle.aeolus_rules_spec.specs.Correct.{holds}

abbrev pub Each : (ℕ → Type 0) → List ℕ → Type 0
Each P [] = Unit
Each P (y ∷ ys) = P y × Each P ys

-- "distinct resources"
abbrev pub Distinct : List ℕ → Type 0
Distinct [] = Unit
Distinct (y ∷ ys) = Each (λ x. x ≢ y) ys × Distinct ys

-- "z' ∈ Z \ {z}"
pub record Other (c : Configuration) (z y : ℕ) : Type 0 where
  pub deployed-is : deployed c y ≡ true
  pub known : y < 32
  pub other : y ≢ z

-- "⟨r, z, zᵢ⟩ ∈ B .. and r is in the domain of .Pmap(qᵢ)"
pub record Serves (u : Universe) (c : Configuration) (z r y : ℕ) : Type 0 where
  pub component : Other c z y
  pub binding : bound u c r z y ≡ true
  pub provided : is_active u c provision y r ≡ true

-- "⟨p, zᵢ, z⟩ ∈ B .. and p is in the domain of .Rwmap(qᵢ) or .Rsmap(qᵢ)"
pub record Employs (u : Universe) (c : Configuration) (z p y : ℕ) : Type 0 where
  pub component : Other c z y
  pub binding : bound u c p y z ≡ true
  pub required : (is_active u c weak y p ≡ true) ⊎ (is_active u c strong y p ≡ true)

-- "C ⊨req (z, r, n)": for 0 no other component has an active provide port r; else there are n distinct components that serve
unfoldable pub Required : Universe → Configuration → ℕ → ℕ → ℕ → Type 0
Required u c z r zero = (y : ℕ) → Other c z y → is_active u c provision y r ≡ false
Required u c z r (suc n) = (ys : List ℕ) × (length ys ≡ suc n) × Distinct ys × Each (Serves u c z r) ys

-- "C ⊨prov (z, p, n)": "there exist no m distinct resources .. with m > n"
unfoldable pub Provided : Universe → Configuration → ℕ → ℕ → ℕ → Type 0
Provided u c z p n = (ys : List ℕ) → Distinct ys → Each (Employs u c z p) ys → length ys ≤ n

-- "(p ↦ n) ∈ P implies C ⊨prov (z, p, n)", for each component
abbrev pub Provisions : Universe → Configuration → Type 0
Provisions u c = (z p n : ℕ) → z < 32 → deployed c z ≡ true → number_in u c provision z p ≡ suc n → Provided u c z p n

-- "(r ↦ n) ∈ R implies C ⊨req (z, r, n)", of the weak or of the strong map
abbrev pub Demands : Universe → Configuration → ℕ → Type 0
Demands u c m = (z r n : ℕ) → z < 32 → deployed c z ≡ true → number_in u c m z r ≡ suc n → Required u c z r n

-- "strong correct if only the strong requirements are considered"
pub record StrongCorrect (u : Universe) (c : Configuration) : Type 0 where
  pub provisions : Provisions u c
  pub strong-demands : Demands u c strong

-- "correct"
pub record Correct (u : Universe) (c : Configuration) : Type 0 where
  pub strong-correct : StrongCorrect u c
  pub weak-demands : Demands u c weak

unfoldable pub StrongExactly : Type 0
StrongExactly = (u : Universe) (c : Configuration) → NamesDiffer u → ((holds u c provision ≡ true) × (holds u c strong ≡ true)) ↔ StrongCorrect u c

unfoldable pub WeakExactly : Type 0
WeakExactly = (u : Universe) (c : Configuration) → NamesDiffer u → (holds u c weak ≡ true) ↔ Demands u c weak

-- "64 serves for an unbounded provision, since no more than 64 bindings can stand"
unfoldable pub SixtyFourIsUnbounded : Type 0
SixtyFourIsUnbounded = (u : Universe) (c : Configuration) (z p : ℕ) → Provided u c z p 64
