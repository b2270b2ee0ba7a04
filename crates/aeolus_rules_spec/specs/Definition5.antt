-- Definition 5 of document 003: what each action makes of the components and of the bindings B, in its signs (`del`: Definition2's DeletedBindingsGo).
use Rattle.std.specs.Prelude.{false, not, cond, ◌&&◌, ◌||◌, List, ◌≡◌, ◌≢◌, ℕ, zero, suc, ◌+◌, ◌<◌, eqb, length}
use Rattle.sets.specs.Test.{tally}
use Rattle.aeolus_model.specs.Model.{Universe, Configuration, nothing, type_of, name_of, kind_of, state_of, deployed, bound}
use Rattle.aeolus_model.specs.Action.{Action, new, del, change, bind, unbind}
use Rattle.aeolus_rules_spec.specs.Definition1.{Lawful}
use Rattle.aeolus_rules_spec.specs.Definition2.{AllKnown}
use Rattle.aeolus_rules_spec.specs.Definition7.{Own}
use Rattle.aeolus_rules_spec.specs.Bind.{bindings}
use Rattle.aeolus_rules_spec.specs.Action.{effect}
use Rattle.aeolus_rules_spec.specs.Run.{run}

-- a configuration has room for 32 components, each with 16 interfaces: so has every point of a run
pub record Sized (c : Configuration) : Type 0 where
  pub kinds : length c.kinds ≡ 32
  pub states : length c.states ≡ 32
  pub rows : length c.bound ≡ 512

unfoldable pub PointsAreSized : Type 0
PointsAreSized = (u : Universe) (acts : List Action) → Lawful u → AllKnown u acts → Sized (run u nothing acts).configuration

-- `bind`: "B ∪ ⟨r, z, y⟩", and the components as they were
unfoldable pub BindAdds : Type 0
BindAdds =
    (u : Universe) (c : Configuration) (r z y q x w : ℕ)
    → Lawful u
    → Sized c
    → z < 32
    → w < 32
    → Own u c (bind r z y)
    → bound u (effect u c (bind r z y)) q x w ≡ (bound u c q x w || (eqb q r && (eqb x z && eqb w y)))

-- `unbind`: "B \ ⟨r, z, y⟩"
unfoldable pub UnbindTakes : Type 0
UnbindTakes =
    (u : Universe) (c : Configuration) (r z y q x w : ℕ)
    → Lawful u
    → Sized c
    → z < 32
    → w < 32
    → Own u c (unbind r z y)
    → bound u (effect u c (unbind r z y)) q x w ≡ (bound u c q x w && not (eqb q r && (eqb x z && eqb w y)))

unfoldable pub BindingsLeaveComponents : Type 0
BindingsLeaveComponents =
    (u : Universe) (c : Configuration) (r z y x : ℕ)
    → ((deployed (effect u c (bind r z y)) x ≡ deployed c x) × (kind_of (effect u c (bind r z y)) x ≡ kind_of c x) × (state_of (effect u c (bind r z y)) x ≡ state_of c x))
    × ((deployed (effect u c (unbind r z y)) x ≡ deployed c x) × (kind_of (effect u c (unbind r z y)) x ≡ kind_of c x) × (state_of (effect u c (unbind r z y)) x ≡ state_of c x))

-- `change`: "⟨C[z].type, q2⟩" for z, "C[z'] otherwise"; B as it was
unfoldable pub ChangeMoves : Type 0
ChangeMoves =
    (u : Universe) (c : Configuration) (z q s x r y : ℕ)
    → Sized c
    → z < 32
    → (state_of (effect u c (change z q s)) x ≡ cond (eqb x z) s (state_of c x))
    × (deployed (effect u c (change z q s)) x ≡ deployed c x)
    × (kind_of (effect u c (change z q s)) x ≡ kind_of c x)
    × (bound u (effect u c (change z q s)) r x y ≡ bound u c r x y)

-- `new`: "Z ∪ {z}", "⟨T, T.init⟩" for z, "C[z'] otherwise"; the bindings of the others as they were
unfoldable pub NewAdds : Type 0
NewAdds =
    (u : Universe) (c : Configuration) (z k x : ℕ)
    → Sized c
    → z < 32
    → x < 32
    → (deployed (effect u c (new z k)) x ≡ (deployed c x || eqb x z))
    × (kind_of (effect u c (new z k)) x ≡ cond (eqb x z) k (kind_of c x))
    × (state_of (effect u c (new z k)) x ≡ cond (eqb x z) (type_of u k).initial (state_of c x))

unfoldable pub NewLeavesBindings : Type 0
NewLeavesBindings =
    (u : Universe) (c : Configuration) (z k r x y : ℕ) → z < 32 → x < 32 → x ≢ z → bound u (effect u c (new z k)) r x y ≡ bound u c r x y

-- and z has none, at every point, whatever stood there before it was deleted
unfoldable pub NewHasNone : Type 0
NewHasNone =
    (u : Universe) (acts : List Action) (z k r y : ℕ)
    → Lawful u
    → AllKnown u acts
    → z < 32
    → y < 32
    → deployed (run u nothing acts).configuration z ≡ false
    → bound u (effect u (run u nothing acts).configuration (new z k)) r z y ≡ false

-- f 0 + .. + f (n - 1)
unfoldable pub total : ℕ → (ℕ → ℕ) → ℕ
total zero f = 0
total (suc n) f = total n f + f n

-- how many triples of B name z as the one that requires: over the interfaces of its type, each of which has one name
unfoldable pub triples_of : Universe → Configuration → ℕ → ℕ
triples_of u c z = total (type_of u (kind_of c z)).interfaces (λ j. tally 32 (λ y. bound u c (name_of u (kind_of c z) j) z y))

-- the number that 67 and the report's `bindings=` speak of is the number of triples, at every point
unfoldable pub BindingsAreCounted : Type 0
BindingsAreCounted =
    (u : Universe) (acts : List Action)
    → Lawful u
    → AllKnown u acts
    → bindings (run u nothing acts).configuration ≡ total 32 (triples_of u (run u nothing acts).configuration)
