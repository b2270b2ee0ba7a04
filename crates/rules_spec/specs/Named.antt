-- Which use port a refusal names: "the lowest one that fails .. it is `-` for every verdict but 34 and 38".
use Rattle.std.specs.Prelude.{◌≡◌, ◌⊎◌, ◌↔◌, Bool, true, ℕ, ◌<◌}
use Rattle.sets.specs.Test.{Lowest}
use Rattle.model.specs.declared.Tables.{Tables}
use Rattle.model.specs.declared.Program.{Program}
use Rattle.model.specs.declared.Step.{Step}
use Rattle.model.specs.declared.Instance.{Instance}
use Rattle.model.specs.declared.Configuration.{Configuration}
use Rattle.model.specs.declared.Concerned.{Concerned}
use Rattle.model.specs.declared.Concerned.TheVariants.{UsePort}
use Rattle.model.specs.View.{is_use, instance}
use Rattle.rules_spec.specs.Refusal.{unserved, unconnected}
use Rattle.rules_spec.specs.Standing.{standing, some_connection}
use Rattle.rules_spec.specs.Instance.{active, ports_of}
use Rattle.rules_spec.specs.Ports.{is_of, fails_unconnected, fails_unserved}
use Rattle.rules_spec.specs.Fire.{after_fire}
use Rattle.rules_spec.specs.Enter.{after_enter}
use Rattle.rules_spec.specs.Action.{Action, fire, enter}
use Rattle.rules_spec.specs.Step.{action, step}

-- the action is a `fire` or an `enter` of instance i, which would be w after it
abbrev pub Moves : Tables → Configuration → Action → ℕ → Instance → Type 0
Moves t c a i w = (p : ℕ) × (((a ≡ fire i p) × (w ≡ after_fire t c i p)) ⊎ ((a ≡ enter i p) × (w ≡ after_enter t c i p)))

-- k names the lowest port of the moving instance that fails this check
pub record Names (t : Tables) (c : Configuration) (a : Action) (fails : ℕ → Instance → ℕ → Bool) (k : Concerned) : Type 0 where
  pub id : ℕ
  pub after : Instance
  pub moves : Moves t c a id after
  pub present : (instance c id).present ≡ true
  pub port : ℕ
  pub named : k ≡ UsePort port
  pub lowest : Lowest (ports_of t (instance c id)) (fails id after) port

-- at 38 a port that is unconnected, at 34 one whose provider is inactive, and no lower one is
unfoldable pub NamesTheLowest : Type 0
NamesTheLowest =
    (default : ℕ) (t : Tables) (p : Program) (c : Configuration) (s : Step)
    → ((step default t p c s).refused ≡ unconnected → Names t c (action p c s) (fails_unconnected t (standing c) c) (step default t p c s).port)
    × ((step default t p c s).refused ≡ unserved → Names t c (action p c s) (fails_unserved t (standing c) c) (step default t p c s).port)

-- a port is named just at 34 and 38
unfoldable pub PortThenAlone : Type 0
PortThenAlone =
    (default : ℕ) (t : Tables) (p : Program) (c : Configuration) (s : Step)
    → ((q : ℕ) × ((step default t p c s).port ≡ UsePort q)) ↔ (((step default t p c s).refused ≡ unserved) ⊎ ((step default t p c s).refused ≡ unconnected))

-- "Keep 34 for a provider that is inactive": at 34 every use port that would be active is connected
unfoldable pub ConnectedAt34 : Type 0
ConnectedAt34 =
    (default : ℕ) (t : Tables) (p : Program) (c : Configuration) (s : Step)
    → (step default t p c s).refused ≡ unserved
    → (i : ℕ) × (w : Instance) × Moves t c (action p c s) i w
    × ((q : ℕ) → q < ports_of t (instance c i) → is_use t w.kind q ≡ true → active t w q ≡ true → some_connection c (is_of i q) ≡ true)
