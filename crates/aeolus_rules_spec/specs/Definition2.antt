-- Definition 2 of document 003: what every point of a run is, on a universe and a plan that keep their limits.
use Rattle.std.specs.Prelude.{Bool, true, false, not, ◌&&◌, List, [], ◌∷◌, ◌≡◌, ◌≢◌, ℕ, ◌≤◌, ◌<◌, eqb}
use Rattle.aeolus_model.specs.Model.{Universe, Configuration, nothing, type_of, kind_of, state_of, deployed, bound}
use Rattle.aeolus_rules_spec.specs.Definition1.{Lawful}
use Rattle.aeolus_rules_spec.specs.Bind.{requires, offers, bindings}
use Rattle.aeolus_rules_spec.specs.Del.{deleted}
use Rattle.aeolus_model.specs.Action.{Action, new, del, change, bind, unbind}
use Rattle.aeolus_rules_spec.specs.Run.{run}

-- "B ⊆ I × Z × Z .. we assume that the two resources are distinct"; the one requires the interface, the other provides it
pub record Joins (u : Universe) (c : Configuration) (r z y : ℕ) : Type 0 where
  pub requirer : deployed c z ≡ true
  pub provider : deployed c y ≡ true
  pub apart : z ≢ y
  pub required : requires u c z r ≡ true
  pub offered : offers u c y r ≡ true

-- "a function that associates to resources in Z a pair ⟨T, q⟩ where T ∈ U .. and q ∈ Q"
pub record Configured (u : Universe) (c : Configuration) : Type 0 where
  pub kind : (z : ℕ) → z < 32 → deployed c z ≡ true → kind_of c z < u.count
  pub state : (z : ℕ) → z < 32 → deployed c z ≡ true → state_of c z < (type_of u (kind_of c z)).states
  pub joins : (r z y : ℕ) → z < 32 → y < 32 → bound u c r z y ≡ true → Joins u c r z y
  pub few : bindings c ≤ 64

-- what the reader takes of an action: its limits (3), and the two ends apart (4)
abbrev pub Known : Universe → Action → Type 0
Known u (new z k) = (z < 32) × (k < u.count)
Known u (del z) = z < 32
Known u (change z q s) = z < 32
Known u (bind r z y) = (z < 32) × (y < 32) × (z ≢ y)
Known u (unbind r z y) = (z < 32) × (y < 32) × (z ≢ y)

abbrev pub AllKnown : Universe → List Action → Type 0
AllKnown u [] = Unit
AllKnown u (a ∷ rest) = Known u a × AllKnown u rest

-- a part of a plan from its start on is a plan, so this speaks of every point
unfoldable pub PointsAreConfigurations : Type 0
PointsAreConfigurations = (u : Universe) (acts : List Action) → Lawful u → AllKnown u acts → Configured u (run u nothing acts).configuration

-- "B' = {⟨r, z1, z2⟩ ∈ B | z ∉ {z1, z2}}", both ways: none that names z is left, and every other stands
unfoldable pub DeletedBindingsGo : Type 0
DeletedBindingsGo =
    (u : Universe) (c : Configuration) (z r x y : ℕ)
    → Lawful u
    → x < 32
    → y < 32
    → bound u (deleted c z) r x y ≡ (bound u c r x y && (not (eqb x z) && not (eqb y z)))
