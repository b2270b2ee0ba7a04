-- The lines of a start, by the effects of `add`, `pushb` and `con`.
use Rattle.std.specs.Prelude.{ℕ, suc, List, [], ◌∷◌, Bool, true, false, not, ◌&&◌, ◌||◌, eqb, leb, ltb, length}
use Rattle.sets.specs.Mask.{joined, overlaps, within}
use Rattle.item_spec.specs.Refusal.{beyond_limit, bad_clause}
use Rattle.item_spec.specs.Reader.{Reader, bytes, byte, ◌>>=◌, ◌>>◌, give, check}
use Rattle.item_spec.specs.Read.{key, upon, number, list, four_form}
use Rattle.item_spec.specs.Items.{items}
use Rattle.model.specs.declared.ComponentType.{ComponentType}
use Rattle.model.specs.declared.Tables.{Tables}
use Rattle.model.specs.declared.Connection.{Connection}
use Rattle.model.specs.declared.Configuration.{Configuration}
use Rattle.model.specs.View.{type_of, pair_of, behavior_in, stamp_in, behavior_of, instance, put, port_number}
use Rattle.read_spec.specs.Limits.{five_digits, has_tickets, list_ok, id_ok, port_ok, type_ok}
use Rattle.rules_spec.specs.Refusal.{allowed}
use Rattle.rules_spec.specs.Standing.{standing}
use Rattle.rules_spec.specs.Instance.{ports_of}
use Rattle.rules_spec.specs.Add.{added}
use Rattle.rules_spec.specs.PushB.{pushed}
use Rattle.rules_spec.specs.Con.{con_check, connected}

-- what an instance's line says: the queue as its slots hold it; the stamp of the last ticket pushed
pub record Row : Type 0 where
  pub id : ℕ
  pub kind : ℕ
  pub marked : ℕ
  pub running : ℕ
  pub ended : ℕ
  pub queue : List ℕ
  pub last : ℕ

-- what a queue holds: a behavior, and "`behavior:ticket` for such sheets", as the behavior with the stamp; z ends it
abbrev pub plain_item : ℕ → Reader (ℕ × ℕ)
plain_item z = do
  b ← number five_digits z
  give (b, 0)

abbrev pub ticket_item : ℕ → Reader (ℕ × ℕ)
ticket_item z = do
  b ← number five_digits (byte ":")
  k ← number five_digits z
  give (b, suc k)

-- "the last ticket pushed to each instance, `-` for none"
unfoldable pub last_form : Reader ℕ
last_form = upon (bytes "-\n") (give 0) (do
  k ← number five_digits (byte "\n")
  give (suc k))

-- the queue, and "A C-20 start for these sheets adds the last ticket": in a sheet that opens with e
unfoldable pub plain_queue : Reader (List (ℕ × ℕ) × ℕ)
plain_queue = do
  q ← items plain_item (byte "\n")
  give (q, 0)

unfoldable pub ticket_queue : Reader (List (ℕ × ℕ) × ℕ)
ticket_queue = do
  q ← items ticket_item (byte ",")
  l ← last_form
  give (q, l)

abbrev pub queue_in : ℕ → Reader (List (ℕ × ℕ) × ℕ)
queue_in e = λ s. elim (has_tickets e) [ true ↦ ticket_queue s | false ↦ plain_queue s ]

-- the slots that hold it
unfoldable pub slots_of : List (ℕ × ℕ) → List ℕ
slots_of [] = []
slots_of (x ∷ q) = pair_of x.0 x.1 ∷ slots_of q

-- every behavior of a queue is one of the n that a type has, and tickets go to 255
abbrev pub stamp_ok : ℕ → Bool
stamp_ok stamp = leb stamp 256

unfoldable pub items_ok : ℕ → List (ℕ × ℕ) → Bool
items_ok n [] = true
items_ok n (x ∷ q) = (ltb x.0 n && stamp_ok x.1) && items_ok n q

-- "the tail's if a queue stands, so starting queues obey the rise": the stamps rise, and the last one is l
unfoldable pub rises_to : ℕ → List ℕ → Bool
rises_to l [] = true
rises_to l (s ∷ []) = eqb (stamp_in s) l
rises_to l (s ∷ u ∷ q) = ltb (stamp_in s) (stamp_in u) && rises_to l (u ∷ q)

-- the transitions of the head behavior, "none if the queue is empty"
abbrev pub head_of : Tables → ℕ → List ℕ → ℕ
head_of t k q = elim q [ [] ↦ 0 | b ∷ rest ↦ behavior_of t k (behavior_in b) ]

-- 3: "a number outside its type or the depth", of a line whose lists have these tops, in queues of at most d
abbrev pub row_ok : ℕ → Tables → ℕ → ℕ → ℕ → ℕ → ℕ → List (ℕ × ℕ) → ℕ → Bool
row_ok d t i k a x y q l =
    id_ok i && (type_ok t.count k && (list_ok (type_of t k).places a && (list_ok (type_of t k).transitions x
    && (list_ok (type_of t k).transitions y && (items_ok (type_of t k).behaviors q && (stamp_ok l && leb (length q) d))))))

-- 4: "held transitions all in the head behavior (none if the queue is empty) and none both running and ended", and by ascending id: m is the least
abbrev pub held_ok : Tables → ℕ → ℕ → ℕ → ℕ → ℕ → List ℕ → Bool
held_ok t m i k x y q = leb m i && (not (overlaps x y) && within (joined x y) (head_of t k q))

-- 4 for tickets
abbrev pub tickets_ok : ℕ → List ℕ → ℕ → Bool
tickets_ok e q l = not (has_tickets e) || rises_to l q

-- `instance=id,type,marked,running,ended,queue`, and `,last` where there are tickets: in a sheet that opens with e, where queues hold at most d and no id below
-- m is left
unfoldable pub instance_line : ℕ → ℕ → Tables → ℕ → Reader Row
instance_line e d t m = do
  key (bytes "instance=")
  i ← number five_digits (byte ",")
  k ← number five_digits (byte ",")
  a ← list five_digits (byte ",")
  x ← list five_digits (byte ",")
  y ← list five_digits (byte ",")
  (q, l) ← queue_in e
  check (row_ok d t i k a.top x.top y.top q l) beyond_limit
  check (held_ok t m i k x.mask y.mask (slots_of q) && tickets_ok e (slots_of q) l) bad_clause
  give (record { id = i; kind = k; marked = a.mask; running = x.mask; ended = y.mask; queue = slots_of q; last = l })

-- what the queue holds is pushed one after the other
unfoldable pub pushed_all : Configuration → ℕ → List ℕ → Configuration
pushed_all c i [] = c
pushed_all c i (b ∷ q) = pushed_all (pushed c i b) i q

-- its tokens stand where the line says
unfoldable pub placed : Configuration → ℕ → ℕ → ℕ → ℕ → Configuration
placed c i m x y =
    put c i (record { present = (instance c i).present; kind = (instance c i).kind; marked = m; running = x; ended = y; queued = (instance c i).queued })

-- it is added, its queue pushed, its tokens placed
unfoldable pub with_row : Tables → Configuration → Row → Configuration
with_row t c w = placed (pushed_all (added t c w.id w.kind) w.id w.queue) w.id w.marked w.running w.ended

-- a port's number, held to its type where its instance is there
unfoldable pub port_in : Tables → Configuration → ℕ → ℕ → Bool
port_in t c i q = port_ok q && (not (instance c i).present || ltb q (ports_of t (instance c i)))

-- 3 and 4: "connections well formed", each one that `con` would make, by user then port: m is the least use port's number
abbrev pub ends_in : Tables → Configuration → ℕ → ℕ → ℕ → ℕ → Bool
ends_in t c a b u v = id_ok a && (port_in t c a b && (id_ok u && port_in t c u v))

abbrev pub joins_ok : Tables → Configuration → ℕ → Connection → Bool
joins_ok t c m k = leb m (port_number k.user k.useport) && eqb (con_check t (standing c) c k) allowed

-- `connection=user,useport,provider,provideport`
unfoldable pub connection_line : Tables → Configuration → ℕ → Reader Connection
connection_line t c m = do
  key (bytes "connection=")
  (a, b, u, v) ← four_form five_digits
  check (ends_in t c a b u v) beyond_limit
  check (joins_ok t c m (record { user = a; useport = b; provider = u; provideport = v })) bad_clause
  give (record { user = a; useport = b; provider = u; provideport = v })
