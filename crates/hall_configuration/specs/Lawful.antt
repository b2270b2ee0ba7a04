-- Number 7 on the configuration: 01's clauses in its words, by the limits that the readers cite. What is past a queue's count, and what an
-- absent record holds, is not looked at; its use ports are. Running and ended may overlap, and may hold what is not in the head.
use Rattle.std.specs.Prelude.{ℕ, suc, Bool, true, not, ◌&&◌, ◌||◌, List, [], ◌∷◌, eqb, leb}
use Rattle.sets.specs.Test.{all_below}
use Rattle.model.specs.Empty.{no_server, most_connections}
use Rattle.model.specs.declared.ComponentType.{ComponentType}
use Rattle.model.specs.declared.Tables.{Tables}
use Rattle.model.specs.declared.Program.{Program}
use Rattle.model.specs.declared.Connection.{Connection}
use Rattle.model.specs.declared.Configuration.{Configuration}
use Rattle.model.specs.View.{type_of, instance, connection_of, slot}
use Rattle.read_spec.specs.Limits.{type_ok, mask_ok, end_ok}
use Rattle.rules_spec.specs.Standing.{standing}
use Rattle.rules_spec.specs.PushB.{depth_of}
use Rattle.rules_spec.specs.Con.{is_use_port, is_provide_port}

-- "a number of a present instance outside its type": the behavior in slot r of its queue
abbrev pub queued_in : ComponentType → ℕ → Bool
queued_in v b = end_ok v.behaviors b

unfoldable pub queued_lawful : Tables → Configuration → ℕ → ℕ → Bool
queued_lawful t c i r = queued_in (type_of t (instance c i).kind) (slot c i r)

-- "a number of a present instance outside its type or the limits above", "a queue past the depth"
unfoldable pub numbers_lawful : ℕ → Tables → Configuration → ℕ → Bool
numbers_lawful default t c i =
    type_ok t.count (instance c i).kind
    && (mask_ok (type_of t (instance c i).kind).places (instance c i).marked
    && (mask_ok (type_of t (instance c i).kind).transitions (instance c i).running
    && (mask_ok (type_of t (instance c i).kind).transitions (instance c i).ended
    && (leb (instance c i).queued (depth_of default t)
    && all_below (instance c i).queued (queued_lawful t c i)))))

unfoldable pub instance_lawful : ℕ → Tables → Configuration → ℕ → Bool
instance_lawful default t c i = not (instance c i).present || numbers_lawful default t c i

-- "one with an absent end, a wrong port, a single instance at both ends"; an id past the last is absent too
unfoldable pub ends_lawful : Tables → Configuration → Connection → Bool
ends_lawful t c k =
    (instance c k.user).present
    && ((instance c k.provider).present
    && (is_use_port t c k.user k.useport
    && (is_provide_port t c k.provider k.provideport
    && not (eqb k.user k.provider))))

-- nobody serves the use port of number s, or its connection with the server v is such a one
unfoldable pub connection_lawful : Tables → Configuration → ℕ → ℕ → Bool
connection_lawful t c s v = eqb v no_server || ends_lawful t c (connection_of s v)

-- of a table whose first use port has the number s
unfoldable pub lawful_from : Tables → Configuration → ℕ → List ℕ → Bool
lawful_from t c s [] = true
lawful_from t c s (v ∷ x) = connection_lawful t c s v && lawful_from t c (suc s) x

-- "over 64 connections". No table has "a use port already connected": a slot is its port (`SlotIsItsPort` of rules)
unfoldable pub connections_lawful : Tables → Configuration → Bool
connections_lawful t c = leb (standing c).count most_connections && lawful_from t c 0 c.servers

-- "more instructions done than the program has"
unfoldable pub configuration_lawful : ℕ → Tables → Program → Configuration → Bool
configuration_lawful default t p c =
    all_below 32 (instance_lawful default t c) && (leb c.done p.count && connections_lawful t c)
