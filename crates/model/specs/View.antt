-- The tables and the configuration as the rules look at them. What lies past an array's end is an empty record, an absent instance or 0.
use Rattle.std.specs.Prelude.{Bool, not, List, [], ◌∷◌, ℕ, zero, suc, ◌+◌, ◌-◌, ◌*◌, ◌/◌, ◌%◌, eqb, get_or, set, take}
use Rattle.model.specs.declared.ComponentType.{ComponentType}
use Rattle.model.specs.declared.Tables.{Tables}
use Rattle.model.specs.declared.Program.{Program}
use Rattle.model.specs.declared.Step.{Step}
use Rattle.model.specs.declared.Answer.{Answer}
use Rattle.model.specs.declared.Instance.{Instance}
use Rattle.model.specs.declared.Connection.{Connection}
use Rattle.model.specs.declared.Configuration.{Configuration}
use Rattle.model.specs.Empty.{no_type, absent, no_server}

-- type k, and its rows: the ends of transition x, the set of behavior b, the kind and the group of port q
abbrev pub type_of : Tables → ℕ → ComponentType
type_of t k = get_or t.types k no_type

abbrev pub source : Tables → ℕ → ℕ → ℕ
source t k x = get_or t.transitions.source (k * 32 + x) 0

abbrev pub destination : Tables → ℕ → ℕ → ℕ
destination t k x = get_or t.transitions.destination (k * 32 + x) 0

abbrev pub behavior_of : Tables → ℕ → ℕ → ℕ
behavior_of t k b = get_or t.behaviors (k * 8 + b) 0

abbrev pub port_kind : Tables → ℕ → ℕ → ℕ
port_kind t k q = get_or t.ports.uses (k * 16 + q) 0

abbrev pub is_use : Tables → ℕ → ℕ → Bool
is_use t k q = eqb (port_kind t k q) 1

abbrev pub group_places : Tables → ℕ → ℕ → ℕ
group_places t k q = get_or t.ports.places (k * 16 + q) 0

abbrev pub group_transitions : Tables → ℕ → ℕ → ℕ
group_transitions t k q = get_or t.ports.transitions (k * 16 + q) 0

-- the steps that an answer has
abbrev pub steps_of : Answer → List Step
steps_of a = take a.count a.steps

-- instance i, slot r of its queue, whose head is slot 0
abbrev pub instance : Configuration → ℕ → Instance
instance c i = get_or c.instances i absent

abbrev pub slot : Configuration → ℕ → ℕ → ℕ
slot c i r = get_or c.queue (i * 8 + r) 0

abbrev pub queue_head : Configuration → ℕ → ℕ
queue_head c i = slot c i 0

-- "`behavior:ticket`": what a slot holds is the behavior, with the stamp: 0 for a push without ticket, else one more than the ticket
abbrev pub pair_of : ℕ → ℕ → ℕ
pair_of b stamp = stamp * 8 + b

abbrev pub behavior_in : ℕ → ℕ
behavior_in s = s % 8

abbrev pub stamp_in : ℕ → ℕ
stamp_in s = s / 8

-- the ports of all instances in one numbering, 16 for each; as a server a provide port is one more than its number
abbrev pub port_number : ℕ → ℕ → ℕ
port_number i q = i * 16 + q

abbrev pub server_number : ℕ → ℕ → ℕ
server_number i q = suc (port_number i q)

-- the connection of the use port of number s with the server v
abbrev pub connection_of : ℕ → ℕ → Connection
connection_of s v = record { user = s / 16; useport = s % 16; provider = (v - 1) / 16; provideport = (v - 1) % 16 }

-- in the table x: who serves the use port of number s, whether someone does, and the connection that this is
abbrev pub server : List ℕ → ℕ → ℕ
server x s = get_or x s no_server

unfoldable pub is_served : List ℕ → ℕ → Bool
is_served x s = not (eqb (server x s) no_server)

abbrev pub connection_at : List ℕ → ℕ → Connection
connection_at x s = connection_of s (server x s)

abbrev pub connection : Configuration → ℕ → Connection
connection c s = connection_at c.servers s

-- f 0, f 1, .., n of them
unfoldable pub list_of : {A : Type 0} → ℕ → (ℕ → A) → List A
list_of zero f = []
list_of (suc n) f = f 0 ∷ list_of n (λ r. f (suc r))

-- the queue of instance i, head first
unfoldable pub queue_of : Configuration → ℕ → List ℕ
queue_of c i = list_of (instance c i).queued (slot c i)

unfoldable pub put : Configuration → ℕ → Instance → Configuration
put c i w = record { instances = set c.instances i w; queue = c.queue; servers = c.servers; done = c.done }

unfoldable pub with_queue : Configuration → List ℕ → Configuration
with_queue c q = record { instances = c.instances; queue = q; servers = c.servers; done = c.done }

unfoldable pub with_servers : Configuration → List ℕ → Configuration
with_servers c x = record { instances = c.instances; queue = c.queue; servers = x; done = c.done }

unfoldable pub with_done : Configuration → ℕ → Configuration
with_done c n = record { instances = c.instances; queue = c.queue; servers = c.servers; done = n }

-- the program, where a paper starts with these queues and these last tickets
abbrev pub begun_with : Program → List ℕ → List ℕ → Program
begun_with p q l = record { edition = p.edition; begun = record { queue = q; last = l }; instructions = p.instructions; count = p.count }
