-- What every point of a walk on lawful tables keeps: numbers within the type, running and ended apart, the queue within the depth, at most
-- 64 connections, each between the right ports of two present instances. That a use port has one at most is a law of the table: a slot is
-- its port.
use Rattle.std.specs.Prelude.{◌≡◌, ◌≢◌, true, false, cond, List, ℕ, ◌≤◌, ◌<◌, length}
use Rattle.sets.specs.Mask.{member}
use Rattle.model.specs.declared.Tables.{Tables}
use Rattle.model.specs.declared.Program.{Program}
use Rattle.model.specs.declared.Step.{Step}
use Rattle.model.specs.declared.Instance.{Instance}
use Rattle.model.specs.declared.Connection.{Connection}
use Rattle.model.specs.declared.Configuration.{Configuration}
use Rattle.model.specs.Empty.{start, most_connections}
use Rattle.model.specs.View.{type_of, is_use, instance, slot, behavior_in, port_number, server, is_served, connection_at, connection}
use Rattle.read_spec.specs.Limits.{has_tickets}
use Rattle.read_spec.specs.Lawful.{Lawful}
use Rattle.rules_spec.specs.Standing.{standing}
use Rattle.rules_spec.specs.Instance.{ports_of}
use Rattle.rules_spec.specs.PushB.{depth_of}
use Rattle.rules_spec.specs.Walk.{walk}

-- what a slot holds is below this: a behavior alone, or with one of 256 tickets
unfoldable pub slot_limit : Program → ℕ
slot_limit p = cond (has_tickets p.edition) 2056 8

-- the record v with the queue slots s
pub record ProperInstance (default : ℕ) (t : Tables) (p : Program) (v : Instance) (s : ℕ → ℕ) : Type 0 where
  pub kind : v.kind < t.count
  pub marked : (x : ℕ) → member x v.marked ≡ true → x < (type_of t v.kind).places
  pub running : (x : ℕ) → member x v.running ≡ true → x < (type_of t v.kind).transitions
  pub ended : (x : ℕ) → member x v.ended ≡ true → x < (type_of t v.kind).transitions
  pub disjoint : (x : ℕ) → member x v.running ≡ true → member x v.ended ≡ false
  pub short : v.queued ≤ depth_of default t
  pub queue : (r : ℕ) → r < v.queued → behavior_in (s r) < (type_of t v.kind).behaviors
  pub tickets : (r : ℕ) → r < v.queued → s r < slot_limit p

-- k joins a use port of a present instance to a provide port of another present one
pub record Joins (t : Tables) (c : Configuration) (k : Connection) : Type 0 where
  pub user : (instance c k.user).present ≡ true
  pub provider : (instance c k.provider).present ≡ true
  pub apart : k.user ≢ k.provider
  pub useport : k.useport < ports_of t (instance c k.user)
  pub uses : is_use t (instance c k.user).kind k.useport ≡ true
  pub provideport : k.provideport < ports_of t (instance c k.provider)
  pub provides : is_use t (instance c k.provider).kind k.provideport ≡ false

-- each connection joins
abbrev pub WellFormed : Tables → Configuration → Type 0
WellFormed t c = (s : ℕ) → s < 512 → is_served c.servers s ≡ true → Joins t c (connection c s)

-- a use port has one connection at most, in any table
unfoldable pub SlotIsItsPort : Type 0
SlotIsItsPort = (x : List ℕ) (s : ℕ) → s ≡ port_number (connection_at x s).user (connection_at x s).useport

-- a server's number is at most 512, so that it fits what holds it
unfoldable pub EntriesAreSmall : Type 0
EntriesAreSmall =
    (t : Tables) (c : Configuration) → length c.instances ≡ 32 → length c.servers ≡ 512 → WellFormed t c → (s : ℕ) → server c.servers s ≤ 512

pub record Proper (default : ℕ) (t : Tables) (p : Program) (c : Configuration) : Type 0 where
  pub each : (i : ℕ) → (instance c i).present ≡ true → ProperInstance default t p (instance c i) (slot c i)
  pub connections : WellFormed t c
  pub few : (standing c).count ≤ most_connections
  pub done : c.done ≤ p.count
  pub instances-length : length c.instances ≡ 32
  pub queue-length : length c.queue ≡ 256
  pub servers-length : length c.servers ≡ 512

-- a prefix of an answer is an answer, so this speaks of each accepted point
unfoldable pub WalksAreProper : Type 0
WalksAreProper =
    (default : ℕ) (t : Tables) (p : Program) (ss : List Step)
    → default ≤ 8
    → Lawful t p
    → Proper default t p (walk default t p start ss).configuration
