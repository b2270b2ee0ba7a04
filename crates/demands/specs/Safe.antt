-- "At each accepted point an active use port is connected to an active provide port."
use Rattle.std.specs.Prelude.{◌≡◌, true, List, ℕ, ◌≤◌, ◌<◌}
use Rattle.model.specs.declared.Tables.{Tables}
use Rattle.model.specs.declared.Program.{Program}
use Rattle.model.specs.declared.Step.{Step}
use Rattle.model.specs.declared.Configuration.{Configuration}
use Rattle.model.specs.View.{is_use, instance, is_served, connection}
use Rattle.read_spec.specs.Lawful.{Lawful}
use Rattle.rules_spec.specs.Instance.{active, ports_of}
use Rattle.rules_spec.specs.Walk.{walk}
use Rattle.rules_spec.specs.Proper.{Joins}
use Rattle.start_spec.specs.Permitted.{MayBegin}

-- the connection in the slot `at` joins the use port q of i to a provide port, which is active
pub record Served (t : Tables) (c : Configuration) (i q : ℕ) : Type 0 where
  pub at : ℕ
  pub within : at < 512
  pub stands : is_served c.servers at ≡ true
  pub joins : Joins t c (connection c at)
  pub user : (connection c at).user ≡ i
  pub useport : (connection c at).useport ≡ q
  pub provider : active t (instance c (connection c at).provider) (connection c at).provideport ≡ true

-- each active use port of a present instance is served
unfoldable pub Safe : Tables → Configuration → Type 0
Safe t c =
    (i q : ℕ)
    → (instance c i).present ≡ true
    → q < ports_of t (instance c i)
    → is_use t (instance c i).kind q ≡ true
    → active t (instance c i) q ≡ true
    → Served t c i q

-- from whatever a paper may begin with; a prefix of an answer is an answer, so this speaks of each accepted point
unfoldable pub WalksAreSafe : Type 0
WalksAreSafe =
    (default : ℕ) (t : Tables) (p : Program) (c : Configuration) (ss : List Step)
    → default ≤ 8
    → Lawful t p
    → MayBegin default t p c
    → Safe t (walk default t p c ss).configuration
