-- What an action changes: the part of one instance, its record and its eight queue slots, told by the old part alone; or the connections.
-- Assumes nothing.
use mathlib.Core.Path.{◌≡◌, refl, sym, ap, ◌∙◌, subst, subst⁻¹}
use mathlib.Core.Logic.{inr, ◌≢◌, by_cases}
use mathlib.Core.Bool.{Bool, true, false, cond, false≢true}
use mathlib.Core.List.{List, []}
use Prim.Native.Nat.{ℕ, suc, ◌+◌, ◌-◌, ◌*◌, ◌≤◌, ◌<◌}
use native.Mathlib.Omega.{arith}
use native.Mathlib.Decide.{ℕ_discrete, dec_lt}
use lib.Dec.{eqb, ltb}
use lib.ListN.{length, get_or, set, length-set}
use lib.Seq.{get_or-set_other}
use borrow.Author.Tests.{eqb-true, eqb-false, eq-eqb, ne_eqb, lt-ltb, le-ltb}
use Rattle.model.specs.declared.Tables.{Tables}
use Rattle.model.specs.declared.Instance.{Instance}
use Rattle.model.specs.declared.Connection.{Connection}
use Rattle.model.specs.declared.Configuration.{Configuration}
use Rattle.model.specs.Empty.{absent}
use Rattle.model.specs.View.{instance, slot, queue_head, put, with_queue, with_servers}
use Rattle.model.proofs.View.{put_same, put_other, apart, outside, slot-set}
use Rattle.rules_spec.specs.Closing.{closed, zeroed, renewed}
use Rattle.rules_spec.specs.Instance.{current, leaving, entering, fired, ended_by, entered, with_queued}
use Rattle.rules_spec.specs.Add.{fresh, added}
use Rattle.rules_spec.specs.Del.{deleted}
use Rattle.rules_spec.specs.PushB.{pushed}
use Rattle.rules_spec.specs.Con.{connected}
use Rattle.rules_spec.specs.DCon.{disconnected}
use Rattle.rules_spec.specs.Fire.{fire_to}
use Rattle.rules_spec.specs.End.{end_to}
use Rattle.rules_spec.specs.Enter.{enter_to}
use Rattle.rules_spec.specs.Finish.{finished}
use Rattle.rules_spec.specs.Action.{Action, add, del, pushb, con, dcon, wait, fire, end, enter, finish, effect}
use Rattle.rules_spec.proofs.Closing.{closed-outside, closed-inside, closed-last, length-closed, zeroed-outside, zeroed-inside, length-zeroed}

-- ---- the table

-- what becomes of an instance's queue slots
pub data Turn : Type 0 where
  stays cleared shifted : Turn
  appended : ℕ → Turn

-- what becomes of the connections
pub data Wiring : Type 0 where
  kept : Wiring
  made cut : Connection → Wiring

-- the instance, its queue, and its record after, from the record before and the head; or the connections
pub data Change : Type 0 where
  part : ℕ → Turn → (Tables → Instance → ℕ → Instance) → Change
  wiring : Wiring → Change

unfoldable pub change : Action → Change
change (add i k) = part i cleared (λ t v h. fresh t k)
change (del i) = part i cleared (λ t v h. absent)
change (pushb i b) = part i (appended b.slot) (λ t v h. with_queued v (suc v.queued))
change (con k) = wiring (made k)
change (dcon k) = wiring (cut k)
change (wait i) = wiring kept
change (fire i p) = part i stays (λ t v h. fired v p (leaving t v.kind (current t v h) p))
change (end i x) = part i stays (λ t v h. ended_by v x)
change (enter i p) = part i stays (λ t v h. entered v p (entering t v.kind (current t v h) p))
change (finish i) = part i shifted (λ t v h. with_queued v (v.queued - 1))

-- ---- the table read: the part of an instance

-- the action changes the part of instance j
unfoldable pub touches : Change → ℕ → Bool
touches (part i u f) j = eqb i j
touches (wiring w) j = false

abbrev pub changes : Action → ℕ → Bool
changes a j = touches (change a) j

-- the instance whose part the action changes, where it changes one
unfoldable pub owner : Change → ℕ
owner (part i u f) = i
owner (wiring w) = 0

abbrev pub owner_of : Action → ℕ
owner_of a = owner (change a)

-- the record after, from the record v and the head h
unfoldable pub self : Change → Tables → Instance → ℕ → Instance
self (part i u f) t v h = f t v h
self (wiring w) t v h = v

abbrev pub own_instance : Tables → Instance → ℕ → Action → Instance
own_instance t v h a = self (change a) t v h

unfoldable pub turn : Change → Turn
turn (part i u f) = u
turn (wiring w) = stays

-- slot r after, from the number n of behaviors queued and the slots s
unfoldable pub turned_slot : Turn → ℕ → (ℕ → ℕ) → ℕ → ℕ
turned_slot stays n s r = s r
turned_slot cleared n s r = 0
turned_slot (appended b) n s r = cond (eqb r n) b (s r)
turned_slot shifted n s r = cond (ltb (suc r) n) (s (suc r)) (cond (eqb (suc r) n) 0 (s r))

abbrev pub own_slot : ℕ → (ℕ → ℕ) → Action → ℕ → ℕ
own_slot n s a r = turned_slot (turn (change a)) n s r

-- what the turn asks: the queue stays within its eight slots
unfoldable pub Fits : Turn → ℕ → Type 0
Fits stays n = Unit {0}
Fits cleared n = Unit {0}
Fits (appended b) n = n < 8
Fits shifted n = (0 < n) × (n ≤ 8)

unfoldable pub Roomy : Configuration → Change → Type 0
Roomy c (part i u f) = (i < 32) × Fits u (instance c i).queued
Roomy c (wiring w) = Unit {0}

-- the instance is one of the 32, and its queue has room for what the action makes of it
abbrev pub Room : Configuration → Action → Type 0
Room c a = Roomy c (change a)

-- ---- the table read: the connections

-- the table of servers
abbrev pub Wires : Type 0
Wires = List ℕ

abbrev pub wires : Configuration → Wires
wires c = c.servers

-- a configuration of nothing but connections
abbrev bare : Wires → Configuration
bare x = record { instances = []; queue = []; servers = x; done = 0 }

unfoldable pub rewired : Wiring → Wires → Wires
rewired kept x = x
rewired (made k) x = wires (connected (bare x) k)
rewired (cut k) x = wires (disconnected (bare x) k)

unfoldable pub wiring_of : Change → Wiring
wiring_of (part i u f) = kept
wiring_of (wiring w) = w

-- ---- the effect is what the table says

-- the queue after, of instance i with n behaviors queued
unfoldable turned : Turn → List ℕ → ℕ → ℕ → List ℕ
turned stays q i n = q
turned cleared q i n = zeroed q (i * 8) 8
turned (appended b) q i n = set q (i * 8 + n) b
turned shifted q i n = closed 0 q (i * 8) (i * 8 + n)

unfoldable changed : Tables → Configuration → Change → Configuration
changed t c (part i u f) = put (with_queue c (turned u c.queue i (instance c i).queued)) i (f t (instance c i) (queue_head c i))
changed t c (wiring w) = with_servers c (rewired w (wires c))

effect_is : (t : Tables) (c : Configuration) (a : Action) → effect t c a ≡ changed t c (change a)
unfolding effect change changed turned rewired added deleted renewed pushed connected disconnected fire_to end_to enter_to finished put with_queue with_servers
effect_is t c (add i k) = refl
effect_is t c (del i) = refl
effect_is t c (pushb i b) = refl
effect_is t c (con k) = refl
effect_is t c (dcon k) = refl
effect_is t c (wait i) = refl
effect_is t c (fire i p) = refl
effect_is t c (end i x) = refl
effect_is t c (enter i p) = refl
effect_is t c (finish i) = refl

-- ---- a queue's slots after a turn
module _ (c : Configuration) (i : ℕ) where
  turned-length : (u : Turn) (n : ℕ) → length (turned u c.queue i n) ≡ length c.queue
  unfolding turned
  turned-length stays n = refl
  turned-length cleared n = length-zeroed c.queue (i * 8) 8
  turned-length (appended b) n = length-set c.queue (i * 8 + n) b
  turned-length shifted n = length-closed 0 c.queue (i * 8) (i * 8 + n)

  module _ (h : i < 32) (full : length c.queue ≡ 256) where
    turned-own : (u : Turn) (n : ℕ) → Fits u n → (r : ℕ) → r < 8 → get_or (turned u c.queue i n) (i * 8 + r) 0 ≡ turned_slot u n (slot c i) r
    unfolding turned turned_slot Fits with_queue
    turned-own stays n f r l = refl
    turned-own cleared n f r l = zeroed-inside c.queue (i * 8) 8 (i * 8 + r) (omega arith) (omega arith)
    turned-own (appended b) n f r l = slot-set c i n b (rw full (omega arith)) r
    turned-own shifted n f r l =
        by_cases (dec_lt (suc r) n)
        (λ x. rw (lt-ltb (suc r) n x) (closed-inside 0 c.queue (i * 8) (i * 8 + n) some room (i * 8 + r) (omega arith) (omega arith) ∙ next))
        (λ x. rw (le-ltb (suc r) n (omega arith)) (by_cases (ℕ_discrete (suc r) n)
        (λ e. rw (eq-eqb (suc r) n e) (closed-last 0 c.queue (i * 8) (i * 8 + n) some room (i * 8 + r) (omega arith)))
        (λ e. rw (ne_eqb (suc r) n e) (closed-outside 0 c.queue (i * 8) (i * 8 + n) some room (i * 8 + r) (inr (omega arith))))))
      where
        some : i * 8 < i * 8 + n
        some = omega arith

        room : i * 8 + n ≤ length c.queue
        room = rw full (omega arith)

        next : get_or c.queue (suc (i * 8 + r)) 0 ≡ slot c i (suc r)
        next = ap (λ (m : ℕ). get_or c.queue m 0) (let e : suc (i * 8 + r) ≡ i * 8 + suc r = omega arith in e)

    turned-other : (u : Turn) (n : ℕ) → Fits u n → (j r : ℕ) → j ≢ i → r < 8 → get_or (turned u c.queue i n) (j * 8 + r) 0 ≡ slot c j r
    unfolding turned Fits
    turned-other stays n f j r d l = refl
    turned-other cleared n f j r d l = zeroed-outside c.queue (i * 8) 8 (j * 8 + r) (outside i j r 8 d l (omega arith))
    turned-other (appended b) n f j r d l = get_or-set_other c.queue (i * 8 + n) (j * 8 + r) b 0 (apart j i r n d l f)
    turned-other shifted n f j r d l =
        closed-outside 0 c.queue (i * 8) (i * 8 + n) (omega arith) (rw full (omega arith)) (j * 8 + r) (outside i j r n d l f.1)

-- ---- after an action
owner-is : (a : Action) (j : ℕ) → changes a j ≡ true → owner_of a ≡ j
unfolding touches owner
owner-is a j = go (change a)
  where
    go : (x : Change) → touches x j ≡ true → owner x ≡ j
    go (part i u f) e = eqb-true i j e
    go (wiring w) e = absurd (false≢true e)

-- what holds of the owner holds of each instance that the action changes
pub at-owner : (P : ℕ → Type 0) (a : Action) (j : ℕ) → changes a j ≡ true → (changes a (owner_of a) ≡ true → P (owner_of a)) → P j
at-owner P a j e f = subst P (owner-is a j e) (f (subst⁻¹ (λ (n : ℕ). changes a n ≡ true) (owner-is a j e) e))

-- the room of an instance that the action changes
pub room-own : (c : Configuration) (a : Action) (j : ℕ) → changes a j ≡ true → Room c a → (j < 32) × Fits (turn (change a)) (instance c j).queued
unfolding touches turn Roomy
room-own c a j = go (change a)
  where
    go : (x : Change) → touches x j ≡ true → Roomy c x → (j < 32) × Fits (turn x) (instance c j).queued
    go (part i u f) e r = subst (λ (n : ℕ). (n < 32) × Fits u (instance c n).queued) (eqb-true i j e) r
    go (wiring w) e r = absurd (false≢true e)

-- an action changes one instance's part at most
pub changes-one : (a : Action) (j n : ℕ) → changes a j ≡ true → n ≢ j → changes a n ≡ false
unfolding touches
changes-one a j n = go (change a)
  where
    go : (x : Change) → touches x j ≡ true → n ≢ j → touches x n ≡ false
    go (part i u f) e d = ne_eqb i n (λ q. d (sym q ∙ eqb-true i j e))
    go (wiring w) e d = refl

-- an action that changes an instance's part keeps the connections
pub part-kept : (a : Action) (j : ℕ) → changes a j ≡ true → wiring_of (change a) ≡ kept
unfolding touches wiring_of
part-kept a j = go (change a)
  where
    go : (x : Change) → touches x j ≡ true → wiring_of x ≡ kept
    go (part i u f) e = refl
    go (wiring w) e = absurd (false≢true e)

-- what d has of c where x was changed, but for the parts
pub record Rest (c : Configuration) (x : Change) (d : Configuration) : Type 0 where
  pub instances : length d.instances ≡ length c.instances
  pub queue : length d.queue ≡ length c.queue
  pub connections : wires d ≡ rewired (wiring_of x) (wires c)
  pub done : d.done ≡ c.done

module _ (t : Tables) (c : Configuration) (a : Action) where
  pub rest-after : Rest c (change a) (effect t c a)
  unfolding changed wiring_of rewired put with_queue with_servers
  rest-after = subst⁻¹ (Rest c (change a)) (effect_is t c a) (go (change a))
    where
      go : (x : Change) → Rest c x (changed t c x)
      go (part i u f) = record { instances = length-set c.instances i _; queue = turned-length c i u _; connections = refl; done = refl }
      go (wiring w) = record { instances = refl; queue = refl; connections = refl; done = refl }

  pub instance-own : (j : ℕ) → changes a j ≡ true → j < length c.instances → instance (effect t c a) j ≡ own_instance t (instance c j) (queue_head c j) a
  unfolding changed touches self with_queue
  instance-own j e h = ap (λ (d : Configuration). instance d j) (effect_is t c a) ∙ go (change a) e
    where
      go : (x : Change) → touches x j ≡ true → instance (changed t c x) j ≡ self x t (instance c j) (queue_head c j)
      go (part i u f) e =
          subst (λ (n : ℕ). instance (changed t c (part i u f)) n ≡ f t (instance c n) (queue_head c n)) (eqb-true i j e)
          (put_same (with_queue c (turned u c.queue i (instance c i).queued)) i _ (rw (eqb-true i j e) h))
      go (wiring w) e = absurd (false≢true e)

  pub instance-other : (j : ℕ) → changes a j ≡ false → instance (effect t c a) j ≡ instance c j
  unfolding changed touches with_queue with_servers
  instance-other j e = ap (λ (d : Configuration). instance d j) (effect_is t c a) ∙ go (change a) e
    where
      go : (x : Change) → touches x j ≡ false → instance (changed t c x) j ≡ instance c j
      go (part i u f) e = put_other (with_queue c (turned u c.queue i (instance c i).queued)) i j _ (λ q. eqb-false i j e (sym q))
      go (wiring w) e = refl

  module _ (full : length c.queue ≡ 256) (room : Room c a) where
    pub slot-own : (j : ℕ) → changes a j ≡ true → (r : ℕ) → r < 8 → slot (effect t c a) j r ≡ own_slot (instance c j).queued (slot c j) a r
    unfolding changed touches turn Roomy put with_queue
    slot-own j e r h = ap (λ (d : Configuration). slot d j r) (effect_is t c a) ∙ go (change a) room e
      where
        go : (x : Change) → Roomy c x → touches x j ≡ true → slot (changed t c x) j r ≡ turned_slot (turn x) (instance c j).queued (slot c j) r
        go (part i u f) x e =
            subst (λ (n : ℕ). slot (changed t c (part i u f)) n r ≡ turned_slot u (instance c n).queued (slot c n) r) (eqb-true i j e)
            (turned-own c i x.0 full u (instance c i).queued x.1 r h)
        go (wiring w) x e = absurd (false≢true e)

    pub slot-other : (j : ℕ) → changes a j ≡ false → (r : ℕ) → r < 8 → slot (effect t c a) j r ≡ slot c j r
    unfolding changed touches Roomy put with_queue with_servers
    slot-other j e r h = ap (λ (d : Configuration). slot d j r) (effect_is t c a) ∙ go (change a) room e
      where
        go : (x : Change) → Roomy c x → touches x j ≡ false → slot (changed t c x) j r ≡ slot c j r
        go (part i u f) x e = turned-other c i x.0 full u (instance c i).queued x.1 j r (λ q. eqb-false i j e (sym q)) h
        go (wiring w) x e = refl

-- an action that changes an instance's part keeps the connections
pub part-wires : (t : Tables) (c : Configuration) (a : Action) (j : ℕ) → changes a j ≡ true → wires (effect t c a) ≡ wires c
unfolding rewired
part-wires t c a j e = (rest-after t c a).connections ∙ ap (λ (w : Wiring). rewired w (wires c)) (part-kept a j e)
