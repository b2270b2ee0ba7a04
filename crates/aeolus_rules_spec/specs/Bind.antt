-- `bind,r,z1,z2`: "⟨r, z1, z2⟩ ∉ B and r ∈ C[z1].req ∩ C[z2].prov": the types' interfaces, whether active now or not; fewer than 64 bindings stand.
use Rattle.std.specs.Prelude.{Bool, not, List, [], ◌∷◌, ℕ, ◌+◌, ◌*◌, ltb, get_or, set}
use Rattle.sets.specs.Test.{tally}
use Rattle.sets.specs.Mask.{member, with}
use Rattle.rules_spec.specs.Refusal.{◌⇒◌∣◌, allowed}
use Rattle.aeolus_model.specs.Model.{Universe, Configuration, may_provide, may_require, place_of, kind_of, deployed, bound}
use Rattle.aeolus_rules_spec.specs.Refusal.{absent, no_such_port, already_bound, no_more_bindings}

-- "r ∈ C[z].req", "r ∈ C[z].prov"
abbrev pub requires : Universe → Configuration → ℕ → ℕ → Bool
requires u c z r = may_require u (kind_of c z) r

abbrev pub offers : Universe → Configuration → ℕ → ℕ → Bool
offers u c z r = may_provide u (kind_of c z) r

-- how many bindings stand, of rows of them
unfoldable pub sizes : List ℕ → ℕ
sizes [] = 0
sizes (m ∷ ms) = tally 32 (λ y. member y m) + sizes ms

abbrev pub bindings : Configuration → ℕ
bindings c = sizes c.bound

unfoldable pub bind_check : Universe → Configuration → ℕ → ℕ → ℕ → ℕ
bind_check u c r z y =
    not (deployed c z) ⇒ absent
    ∣ not (deployed c y) ⇒ absent
    ∣ not (requires u c z r) ⇒ no_such_port
    ∣ not (offers u c y r) ⇒ no_such_port
    ∣ bound u c r z y ⇒ already_bound
    ∣ not (ltb (bindings c) 64) ⇒ no_more_bindings
    ∣ allowed

-- the providers of z for r become f of what they were
unfoldable pub rebound : Universe → Configuration → ℕ → ℕ → (ℕ → ℕ) → Configuration
rebound u c r z f = record {
  present = c.present;
  kinds = c.kinds;
  states = c.states;
  bound = set c.bound (z * 16 + place_of u (kind_of c z) r) (f (get_or c.bound (z * 16 + place_of u (kind_of c z) r) 0));
}

unfoldable pub joined : Universe → Configuration → ℕ → ℕ → ℕ → Configuration
joined u c r z y = rebound u c r z (with y)
