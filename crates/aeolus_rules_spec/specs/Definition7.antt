-- Definitions 5 and 7 of document 003: an action's own condition in its signs, and a deployment run. What 0 and 70 mean.
use Rattle.std.specs.Prelude.{true, false, List, [], ◌∷◌, ◌≡◌, ◌↔◌, ℕ, ◌<◌}
use Rattle.sets.specs.Mask.{member}
use Rattle.aeolus_model.specs.Model.{Universe, Configuration, nothing, kind_of, state_of, deployed, bound, to_of, NamesDiffer}
use Rattle.aeolus_rules_spec.specs.Bind.{requires, offers, bindings}
use Rattle.aeolus_model.specs.Action.{Action, new, del, change, bind, unbind}
use Rattle.aeolus_rules_spec.specs.Action.{effect, number}
use Rattle.aeolus_rules_spec.specs.Run.{run}
use Rattle.aeolus_rules_spec.specs.Definition3.{StrongCorrect, Correct}

-- Definition 5, and for `bind` that fewer than 64 bindings stand
abbrev pub Own : Universe → Configuration → Action → Type 0
Own u c (new z k) = deployed c z ≡ false
Own u c (del z) = deployed c z ≡ true
Own u c (change z q s) = (deployed c z ≡ true) × (state_of c z ≡ q) × (member s (to_of u (kind_of c z) q) ≡ true)
Own u c (bind r z y) =
    (deployed c z ≡ true) × (deployed c y ≡ true) × (requires u c z r ≡ true) × (offers u c y r ≡ true) × (bound u c r z y ≡ false) × (bindings c < 64)
Own u c (unbind r z y) = bound u c r z y ≡ true

-- nothing lawful is refused, and nothing unlawful let through
unfoldable pub AllowedExactly : Type 0
AllowedExactly =
    (u : Universe) (c : Configuration) (a : Action) → NamesDiffer u → (number u c a ≡ 0) ↔ (Own u c a × StrongCorrect u (effect u c a))

-- "C = C₀, C(j-1) → Cj for every j", each of them strong correct, to d
abbrev pub Reaches : Universe → Configuration → List Action → Configuration → Type 0
Reaches u c [] d = c ≡ d
Reaches u c (a ∷ rest) d = Own u c a × StrongCorrect u (effect u c a) × Reaches u (effect u c a) rest d

-- "C₀ and Cm are correct while, for every i ∈ {1, .., m-1}, Ci is strong correct"; without multiple state changes
pub record DeploymentRun (u : Universe) (c : Configuration) (acts : List Action) (d : Configuration) : Type 0 where
  pub first : Correct u c
  pub reaches : Reaches u c acts d
  pub last : Correct u d

-- at every accepted point, and so in every configuration that a report shows
unfoldable pub PointsAreCorrect : Type 0
PointsAreCorrect = (u : Universe) → NamesDiffer u → (acts : List Action) → StrongCorrect u (run u nothing acts).configuration

-- 0 is given just for a deployment run
unfoldable pub ZeroIsADeploymentRun : Type 0
ZeroIsADeploymentRun =
    (u : Universe) → NamesDiffer u → (acts : List Action)
    → ((run u nothing acts).refused ≡ 0) ↔ ((d : Configuration) × DeploymentRun u nothing acts d)

-- 70 just where all actions are allowed and the last configuration is not correct
unfoldable pub SeventyExactly : Type 0
SeventyExactly =
    (u : Universe) → NamesDiffer u → (acts : List Action)
    → ((run u nothing acts).refused ≡ 70) ↔ ((d : Configuration) × Reaches u nothing acts d × (Correct u d → ⊥))
