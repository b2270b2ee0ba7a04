-- The connections as a set: which stand, what `con` and `dcon` make of them, and that each allowed action keeps them well formed.
-- Assumes nothing.
use mathlib.Core.Path.{◌≡◌, refl, sym, ap, ap₂, ◌∙◌, subst, subst⁻¹}
use mathlib.Core.Logic.{◌⊎◌, inl, inr, ⊎_elim, ◌≢◌, by_cases}
use mathlib.Core.Bool.{Bool, true, false, not, ◌&&◌, or-true, and-true, and-eq-true_iff, false≢true}
use mathlib.Core.List.{List, [], ◌∷◌}
use Prim.Native.Nat.{ℕ, suc, ◌+◌, ◌/◌, ◌%◌, ◌≤◌, ◌<◌}
use native.Mathlib.Omega.{arith}
use native.Mathlib.Decide.{ℕ_discrete, dec_lt}
use lib.Dec.{eqb, ltb}
use lib.ListN.{length, set, length-set}
use lib.Seq.{get_or-set_same}
use borrow.Author.Tests.{eqb-true, eq-eqb, not-true, not-false, ltb-true}
use Rattle.sets.proofs.Laws.{any_none, any-hit, any_some}
use Rattle.sets.specs.Test.{tally}
use Rattle.sets.proofs.Tally.{tally-first, tally-one}
use Rattle.model.specs.declared.Tables.{Tables}
use Rattle.model.specs.declared.Instance.{Instance}
use Rattle.model.specs.declared.Connection.{Connection}
use Rattle.model.specs.declared.Configuration.{Configuration}
use Rattle.model.specs.Empty.{no_server}
use Rattle.model.specs.View.{is_use, instance, port_number, server_number, server, is_served, connection_at, connection, queue_head, with_servers}
use Rattle.model.proofs.View.{past_end, slot-says, slot_is, set-beside, set-served, set_free}
use Rattle.item_spec.proofs.Tests.{by-test, and_left, and_right}
use Rattle.rules_spec.specs.Standing.{entries, in_table, standing, some_connection}
use Rattle.rules_spec.specs.Instance.{ports_of, fired, ended_by, entered, with_queued}
use Rattle.rules_spec.specs.Del.{named_by}
use Rattle.rules_spec.specs.Con.{is_use_port, is_provide_port, connected}
use Rattle.rules_spec.specs.DCon.{same_connection, disconnected}
use Rattle.rules_spec.specs.Ports.{is_of}
use Rattle.rules_spec.specs.Action.{Action, add, del, pushb, con, dcon, wait, fire, end, enter, finish, action_check, effect}
use Rattle.rules_spec.specs.Step.{check_at}
use Rattle.rules_spec.specs.Proper.{Joins, WellFormed, SlotIsItsPort, EntriesAreSmall}
use Rattle.rules_spec.proofs.Local.{Wiring, kept, made, cut, Wires, wires, rewired, wiring_of, change, touches, changes, owner, owner_of, at-owner, self, own_instance, rest-after, part-kept, instance-own, instance-other}
use Rattle.rules_spec.proofs.Allowed.{add-facts, del-facts, ConFacts, con-facts, DconFacts, dcon-facts, present-in}

pub slot-is-its-port : SlotIsItsPort
unfolding SlotIsItsPort
slot-is-its-port x s = omega arith

-- ---- which stand

abbrev pub Stands : Wires → Connection → Type 0
Stands x k = (s : ℕ) × (s < 512) × (is_served x s ≡ true) × (connection_at x s ≡ k)

-- the connection k stands in c
abbrev pub Joined : Configuration → Connection → Type 0
Joined c k = Stands (wires c) k

module _ (x : Wires) (p : Connection → Bool) where
  abbrev passes : ℕ → Bool
  passes s = p (connection_at x s) && is_served x s

  pub some-stands : (in_table x).some p ≡ true → (k : Connection) × Stands x k × (p k ≡ true)
  unfolding in_table
  some-stands e =
      let (s, (h, f)) = any_some 512 passes e in
      (connection_at x s, (s, h, and_right (p (connection_at x s)) (is_served x s) f, refl), and_left (p (connection_at x s)) (is_served x s) f)

  pub stands-some : (k : Connection) → Stands x k → p k ≡ true → (in_table x).some p ≡ true
  unfolding in_table
  stands-some k (s, h, on, is) e = any-hit 512 passes s h (rw (on, is, e) refl)

  pub stands-none : (k : Connection) → (in_table x).some p ≡ false → Stands x k → p k ≡ false
  unfolding in_table
  stands-none k e (s, h, on, is) = sym (ap p is) ∙ sym (and-true (p (connection_at x s))) ∙ (rw on at (any_none 512 passes e s h))

pub some-joined : (c : Configuration) (p : Connection → Bool) → some_connection c p ≡ true → (k : Connection) × Joined c k × (p k ≡ true)
some-joined c = some-stands (wires c)

pub joined-some : (c : Configuration) (p : Connection → Bool) (k : Connection) → Joined c k → p k ≡ true → some_connection c p ≡ true
joined-some c = stands-some (wires c)

pub joined-none : (c : Configuration) (p : Connection → Bool) (k : Connection) → some_connection c p ≡ false → Joined c k → p k ≡ false
joined-none c = stands-none (wires c)

-- what is asked of the use port q of i is asked of its slot alone
pub one-look : (x : Wires) (i q : ℕ) (test : Connection → Bool) → i < 32 → q < 16
    → (in_table x).some (λ k. eqb k.user i && (eqb k.useport q && test k)) ≡ (is_served x (port_number i q) && test (connection_at x (port_number i q)))
one-look x i q test hi hq =
    by-test (is_served x (port_number i q) && test (connection_at x (port_number i q)))
    (λ e.
    stands-some x asked (connection_at x (port_number i q)) (port_number i q, omega arith, and_left (is_served x (port_number i q)) _ e, refl)
    (rw (eq-eqb (port_number i q / 16) i (omega arith), eq-eqb (port_number i q % 16) q (omega arith)) (and_right (is_served x (port_number i q)) _ e))
    ∙ sym e)
    (λ e. by-test ((in_table x).some asked) (λ on. absurd (false≢true (sym e ∙ found (some-stands x asked on)))) (λ off. off) ∙ sym e)
  where
    asked : Connection → Bool
    asked k = eqb k.user i && (eqb k.useport q && test k)

    found : (k : Connection) × Stands x k × (asked k ≡ true) → (is_served x (port_number i q) && test (connection_at x (port_number i q))) ≡ true
    found (k, z, f) =
        let (a, rest) = (and-eq-true_iff (eqb k.user i) _).0 f in
        let (b, passed) = (and-eq-true_iff (eqb k.useport q) _).0 rest in
        let (r, h, on, is) = z in
        let at : r ≡ port_number i q = slot_is x r k is ∙ ap₂ port_number (eqb-true _ _ a) (eqb-true _ _ b) in
        let served : is_served x (port_number i q) ≡ true = ap (is_served x) (sym at) ∙ on in
        let says : test (connection_at x (port_number i q)) ≡ true = ap (λ (s : ℕ). test (connection_at x s)) (sym at) ∙ ap test is ∙ passed in
        rw (served, says) refl

-- the count is over the slots
entries-tally : (x : List ℕ) → entries x ≡ tally (length x) (is_served x)
unfolding entries tally is_served
entries-tally [] = refl
entries-tally (v ∷ x) =
    go (eqb v no_server) (entries-tally x) ∙ sym (tally-first (length x) (is_served (v ∷ x)))
  where
    go : (b : Bool) → entries x ≡ tally (length x) (is_served x) → elim b [ true ↦ entries x | false ↦ suc (entries x) ] ≡ elim (not b) [ true ↦ 1 | false ↦ 0 ] + tally (length x) (is_served x)
    go true e = omega (arith, e)
    go false e = omega (arith, e)

pub count-is : (x : Wires) → length x ≡ 512 → (in_table x).count ≡ tally 512 (is_served x)
unfolding in_table
count-is x full = entries-tally x ∙ ap (λ (n : ℕ). tally n (is_served x)) full

-- ids and ports within the limits
pub record Small (k : Connection) : Type 0 where
  pub user : k.user < 32
  pub useport : k.useport < 16
  pub provider : k.provider < 32
  pub provideport : k.provideport < 16

-- where k stands if it does
abbrev pub slot_of : Connection → ℕ
slot_of k = port_number k.user k.useport

-- ---- con

-- the table with k
abbrev pub serving : Wires → Connection → Wires
serving x k = set x (slot_of k) (server_number k.provider k.provideport)

module _ (x : Wires) (full : length x ≡ 512) (k : Connection) (small : Small k) where
  in-table : slot_of k < 512
  in-table = omega (arith, small.user, small.useport)

  own-served : is_served (serving x k) (slot_of k) ≡ true
  own-served = set-served x (slot_of k) _ (rw full in-table)

  own-says : connection_at (serving x k) (slot_of k) ≡ k
  own-says = slot-says (serving x k) k small.useport small.provideport (get_or-set_same x (slot_of k) _ no_server (rw full in-table))

  pub con-new : Stands (serving x k) k
  con-new = (slot_of k, in-table, own-served, own-says)

  pub con-only : (j : Connection) → Stands (serving x k) j → Stands x j ⊎ (j ≡ k)
  con-only j (s, h, on, is) =
      let beside = set-beside x (slot_of k) (server_number k.provider k.provideport) in
      by_cases (ℕ_discrete s (slot_of k)) (λ e. inr (sym is ∙ ap (connection_at (serving x k)) e ∙ own-says))
      (λ n. inl (s, h, beside.served s n ∙ on, beside.says s n ∙ is))

  module _ (free : (in_table x).some (is_of k.user k.useport) ≡ false) where
    unserved : is_served x (slot_of k) ≡ false
    unfolding is_of
    unserved =
        by-test (is_served x (slot_of k))
        (λ on. absurd (false≢true (sym (stands-none x (is_of k.user k.useport) (connection_at x (slot_of k)) free (slot_of k, in-table, on, refl))
        ∙ rw (eq-eqb (slot_of k / 16) k.user (omega (arith, small.useport)), eq-eqb (slot_of k % 16) k.useport (omega (arith, small.useport))))))
        (λ off. off)

    pub con-keeps : (j : Connection) → Stands x j → Stands (serving x k) j
    con-keeps j (s, h, on, is) =
        let beside = set-beside x (slot_of k) (server_number k.provider k.provideport) in
        let n : s ≢ slot_of k = λ e. false≢true (sym unserved ∙ ap (is_served x) (sym e) ∙ on) in
        (s, h, sym (beside.served s n) ∙ on, sym (beside.says s n) ∙ is)

    pub con-count : (in_table (serving x k)).count ≡ suc (in_table x).count
    con-count =
        count-is (serving x k) (length-set x (slot_of k) _ ∙ full) ∙ more ∙ ap suc (sym (count-is x full))
      where
        more : tally 512 (is_served (serving x k)) ≡ suc (tally 512 (is_served x))
        more = tally-one 512 (slot_of k) (is_served x) (is_served (serving x k)) in-table unserved own-served (set-beside x (slot_of k) _).served

-- ---- dcon

pub same-is : (k l : Connection) → same_connection k l ≡ true → l ≡ k
unfolding same_connection
same-is k l e =
    let (a, e₁) = (and-eq-true_iff (eqb l.user k.user) _).0 e in
    let (b, e₂) = (and-eq-true_iff (eqb l.useport k.useport) _).0 e₁ in
    let (d, f) = (and-eq-true_iff (eqb l.provider k.provider) _).0 e₂ in
    all (eqb-true _ _ a) (eqb-true _ _ b) (eqb-true _ _ d) (eqb-true _ _ f)
  where
    all : l.user ≡ k.user → l.useport ≡ k.useport → l.provider ≡ k.provider → l.provideport ≡ k.provideport
        → ◌≡◌ {A = Connection} (record { user = l.user; useport = l.useport; provider = l.provider; provideport = l.provideport }) k
    all a b d f = rw (a, b, d, f)

pub same-stands : (x : Wires) (k : Connection) → (in_table x).some (same_connection k) ≡ true → Stands x k
same-stands x k e = let (j, z, f) = some-stands x (same_connection k) e in subst (Stands x) (same-is k j f) z

-- two that stand in one slot are one
pub one-slot : (x : Wires) (j k : Connection) → Stands x j → Stands x k → slot_of j ≡ slot_of k → j ≡ k
one-slot x j k (s, _, _, is) (r, _, _, at) e = sym is ∙ ap (connection_at x) (slot_is x s j is ∙ e ∙ sym (slot_is x r k at)) ∙ at

-- the table without k
abbrev pub freed : Wires → Connection → Wires
freed x k = set x (slot_of k) no_server

module _ (x : Wires) (full : length x ≡ 512) (k : Connection) (stands : Stands x k) where
  its-slot : slot_of k < 512
  its-slot = let (s, h, on, is) = stands in rw (← slot_is x s k is) h

  was-served : is_served x (slot_of k) ≡ true
  was-served = let (s, h, on, is) = stands in ap (is_served x) (sym (slot_is x s k is)) ∙ on

  left-free : is_served (freed x k) (slot_of k) ≡ false
  left-free = set_free x (slot_of k) (rw full its-slot)

  -- what stands afterwards stands elsewhere
  pub dcon-elsewhere : (j : Connection) → Stands (freed x k) j → slot_of j ≢ slot_of k
  dcon-elsewhere j (s, h, on, is) e = false≢true (sym left-free ∙ ap (is_served (freed x k)) (sym (slot_is (freed x k) s j is ∙ e)) ∙ on)

  pub dcon-only : (j : Connection) → Stands (freed x k) j → Stands x j
  dcon-only j (s, h, on, is) =
      let beside = set-beside x (slot_of k) no_server in
      let n : s ≢ slot_of k = λ e. dcon-elsewhere j (s, h, on, is) (sym (slot_is (freed x k) s j is) ∙ e) in
      (s, h, beside.served s n ∙ on, beside.says s n ∙ is)

  pub dcon-keeps : (j : Connection) → Stands x j → j ≢ k → Stands (freed x k) j
  dcon-keeps j (s, h, on, is) d =
      let beside = set-beside x (slot_of k) no_server in
      let n : s ≢ slot_of k = λ e. d (one-slot x j k (s, h, on, is) stands (sym (slot_is x s j is) ∙ e)) in
      (s, h, sym (beside.served s n) ∙ on, sym (beside.says s n) ∙ is)

  pub dcon-count : (in_table x).count ≡ suc (in_table (freed x k)).count
  dcon-count =
      count-is x full ∙ less ∙ ap suc (sym (count-is (freed x k) (length-set x (slot_of k) no_server ∙ full)))
    where
      less : tally 512 (is_served x) ≡ suc (tally 512 (is_served (freed x k)))
      less = tally-one 512 (slot_of k) (is_served (freed x k)) (is_served x) its-slot left-free was-served (λ s n. sym ((set-beside x (slot_of k) no_server).served s n))

-- ---- every action

-- what an allowed action tells of the connections
unfoldable pub Passed : Tables → Configuration → Wiring → Type 0
Passed t c kept = Unit {0}
Passed t c (made k) = ConFacts t c k
Passed t c (cut k) = DconFacts t c k

pub passed : (default : ℕ) (t : Tables) (c : Configuration) (a : Action) → check_at default t c a ≡ 0 → Passed t c (wiring_of (change a))
unfolding action_check change wiring_of Passed
passed default t c (con k) e = con-facts t c k e
passed default t c (dcon k) e = dcon-facts t c k e
passed default t c (add i k) e = tt
passed default t c (del i) e = tt
passed default t c (pushb i b) e = tt
passed default t c (wait i) e = tt
passed default t c (fire i p) e = tt
passed default t c (end i x) e = tt
passed default t c (enter i p) e = tt
passed default t c (finish i) e = tt

-- present alike and of one type
abbrev pub Alike : Instance → Instance → Type 0
Alike v w = (v.present ≡ w.present) × (v.kind ≡ w.kind)

pub same_alike : {v w : Instance} → v ≡ w → Alike v w
same_alike e = (ap (λ (u : Instance). u.present) e, ap (λ (u : Instance). u.kind) e)

pub joins-alike : (t : Tables) (c d : Configuration) (k : Connection) → Alike (instance d k.user) (instance c k.user)
    → Alike (instance d k.provider) (instance c k.provider) → Joins t c k → Joins t d k
joins-alike t c d k (up, uk) (pp, pk) j =
    record {
      user = up ∙ j.user;
      provider = pp ∙ j.provider;
      apart = j.apart;
      useport = rw (uk, ports_of) j.useport;
      uses = rw uk j.uses;
      provideport = rw (pk, ports_of) j.provideport;
      provides = rw pk j.provides;
    }

-- an instance that a connection names stays present and of its type
own-alike : (default : ℕ) (t : Tables) (c : Configuration) (a : Action) → check_at default t c a ≡ 0 → (instance c (owner_of a)).present ≡ true → some_connection c (named_by (owner_of a)) ≡ true
    → changes a (owner_of a) ≡ true → Alike (own_instance t (instance c (owner_of a)) (queue_head c (owner_of a)) a) (instance c (owner_of a))
unfolding action_check change touches owner self fired ended_by entered with_queued
own-alike default t c (add i k) e here on q = absurd (false≢true (sym (add-facts c i e) ∙ here))
own-alike default t c (del i) e here on q = absurd (false≢true (sym (del-facts c i e).unnamed ∙ on))
own-alike default t c (pushb i b) e here on q = (refl, refl)
own-alike default t c (con k) e here on q = absurd (false≢true q)
own-alike default t c (dcon k) e here on q = absurd (false≢true q)
own-alike default t c (wait i) e here on q = absurd (false≢true q)
own-alike default t c (fire i p) e here on q = (refl, refl)
own-alike default t c (end i x) e here on q = (refl, refl)
own-alike default t c (enter i p) e here on q = (refl, refl)
own-alike default t c (finish i) e here on q = (refl, refl)

-- the connections of c
pub record Wired (t : Tables) (c : Configuration) : Type 0 where
  pub formed : WellFormed t c
  pub few : (standing c).count ≤ 64
  pub full : length c.servers ≡ 512

pub joined-joins : (t : Tables) (c : Configuration) → WellFormed t c → (j : Connection) → Joined c j → Joins t c j
joined-joins t c formed j (s, h, on, is) = subst (Joins t c) is (formed s h on)

pub entries-are-small : EntriesAreSmall
unfolding EntriesAreSmall is_served
entries-are-small t c wide full formed s =
    by-test (is_served x s)
    (λ on. by_cases (dec_lt s 512)
    (λ h. let inside = present-in c (connection c s).provider (formed s h on).provider in omega (arith, inside, wide))
    (λ far. let past = past_end x no_server {i = s} full (omega arith) in omega (arith, past)))
    (λ off. let zero = eqb-true (server x s) no_server (not-false (eqb (server x s) no_server) off) in omega (arith, zero))
  where
    x : Wires
    x = c.servers

pub new-joins : (t : Tables) (c : Configuration) (k : Connection) → ConFacts t c k → Joins t c k
unfolding is_use_port is_provide_port
new-joins t c k f =
    let (useport, uses) = (and-eq-true_iff (ltb k.useport (ports_of t (instance c k.user))) _).0 f.uses in
    let (provideport, provides) = (and-eq-true_iff (ltb k.provideport (ports_of t (instance c k.provider))) _).0 f.provides in
    record {
      user = f.user;
      provider = f.provider;
      apart = f.apart;
      useport = ltb-true _ _ useport;
      uses = uses;
      provideport = ltb-true _ _ provideport;
      provides = not-true (is_use t (instance c k.provider).kind k.provideport) provides;
    }

module _ (default : ℕ) (t : Tables) (c : Configuration) (now : Wired t c) (sized : (k : Connection) → Joins t c k → Small k) where
  -- a connection that stands afterwards stood before or is new
  joins-before : (w : Wiring) → Passed t c w → (j : Connection) → Stands (rewired w (wires c)) j → Joins t c j
  unfolding Passed rewired connected disconnected with_servers
  joins-before kept f j x = joined-joins t c now.formed j x
  joins-before (made k) f j x =
      let new = new-joins t c k f in
      ⊎_elim (joined-joins t c now.formed j) (λ e. subst⁻¹ (Joins t c) e new) (con-only (wires c) now.full k (sized k new) j x)
  joins-before (cut k) f j x = joined-joins t c now.formed j (dcon-only (wires c) now.full k (same-stands (wires c) k f.stands) j x)

  few-after : (w : Wiring) → Passed t c w → (in_table (rewired w (wires c))).count ≤ 64
  unfolding Passed rewired connected disconnected with_servers
  few-after kept f = now.few
  few-after (made k) f = rw (con-count (wires c) now.full k (sized k (new-joins t c k f)) f.free) f.few
  few-after (cut k) f = omega (arith, now.few, dcon-count (wires c) now.full k (same-stands (wires c) k f.stands))

  full-after : (w : Wiring) → length (rewired w (wires c)) ≡ 512
  unfolding rewired connected disconnected with_servers
  full-after kept = now.full
  full-after (made k) = length-set (wires c) (slot_of k) _ ∙ now.full
  full-after (cut k) = length-set (wires c) (slot_of k) no_server ∙ now.full

  module _ (a : Action) (ok : check_at default t c a ≡ 0) where
    alike-after : (j : ℕ) → (instance c j).present ≡ true → (changes a j ≡ true → some_connection c (named_by j) ≡ true) → Alike (instance (effect t c a) j) (instance c j)
    alike-after j here on =
        by-test (changes a j)
        (λ q. subst⁻¹ (λ (v : Instance). Alike v (instance c j)) (instance-own t c a j q (present-in c j here))
        (at-owner (λ (n : ℕ). (instance c n).present ≡ true → some_connection c (named_by n) ≡ true → Alike (own_instance t (instance c n) (queue_head c n) a) (instance c n)) a j q
        (λ r h s. own-alike default t c a ok h s r) here (on q)))
        (λ q. same_alike (instance-other t c a j q))

    named-before : (k : Connection) → Stands (rewired (wiring_of (change a)) (wires c)) k → (j : ℕ) → named_by j k ≡ true → changes a j ≡ true → some_connection c (named_by j) ≡ true
    unfolding rewired
    named-before k x j n q = joined-some c (named_by j) k (subst (λ (w : Wiring). Stands (rewired w (wires c)) k) (part-kept a j q) x) n

    joins_after : (k : Connection) → Stands (rewired (wiring_of (change a)) (wires c)) k → Joins t (effect t c a) k
    unfolding named_by
    joins_after k x =
        let j = joins-before (wiring_of (change a)) (passed default t c a ok) k x in
        joins-alike t c (effect t c a) k (alike-after k.user j.user (named-before k x k.user (rw (eq-eqb k.user k.user refl))))
        (alike-after k.provider j.provider (named-before k x k.provider (rw (eq-eqb k.provider k.provider refl) (or-true (eqb k.user k.provider)))))
        j

    pub wired-after : Wired t (effect t c a)
    wired-after =
        let (joins, few, full) = by (wires (effect t c a)) (rest-after t c a).connections in
        record {
          formed = λ s h on. joins (connection (effect t c a) s) (s, h, on, refl);
          few = few;
          full = full;
        }
      where
        by : (x : Wires) → x ≡ rewired (wiring_of (change a)) (wires c)
            → ((k : Connection) → Stands x k → Joins t (effect t c a) k) × ((in_table x).count ≤ 64) × (length x ≡ 512)
        by x e =
            let w = wiring_of (change a) in
            let f = passed default t c a ok in
            rw e (joins_after, few-after w f, full-after w)
