-- Two neighbouring moves of unconnected components change places.
-- Assumes nothing.
use mathlib.Core.Path.{◌≡◌, refl, sym, ap, ap₂, ◌∙◌}
use mathlib.Core.Logic.{◌≢◌, by_cases}
use mathlib.Core.Bool.{Bool, true, false, ◌&&◌, or-true, and-false, false≢true}
use mathlib.Core.List.{List, [], ◌∷◌, ◌++◌}
use Prim.Native.Nat.{ℕ, ◌<◌}
use native.Mathlib.Omega.{arith}
use native.Mathlib.Decide.{ℕ_discrete}
use lib.Dec.{eqb}
use borrow.Author.Tests.{eqb-true, eq-eqb}
use Rattle.sets.proofs.Laws.{any_same}
use Rattle.item_spec.proofs.Tests.{by-test}
use Rattle.model.specs.declared.Tables.{Tables}
use Rattle.model.specs.declared.Program.{Program}
use Rattle.model.specs.declared.Step.{Step}
use Rattle.model.specs.declared.Instance.{Instance}
use Rattle.model.specs.declared.Connection.{Connection}
use Rattle.model.specs.declared.Configuration.{Configuration}
use Rattle.model.specs.declared.Walked.{Walked}
use Rattle.model.specs.View.{instance, is_served, connection, queue_head}
use Rattle.rules_spec.specs.Refusal.{or_number}
use Rattle.rules_spec.specs.Instance.{ports_of, current, leaving, entering, fired, entered}
use Rattle.rules_spec.specs.Standing.{standing, in_table, some_connection}
use Rattle.rules_spec.specs.Ports.{is_of, serves, blocks, employs, fails_unconnected, fails_unserved, fails_refusing, fails_in_use, port_check}
use Rattle.rules_spec.specs.Fire.{fire_row, fire_check}
use Rattle.rules_spec.specs.End.{end_check}
use Rattle.rules_spec.specs.Enter.{enter_row, enter_check}
use Rattle.rules_spec.specs.Finish.{finish_row, finish_check}
use Rattle.rules_spec.specs.Action.{Action, add, del, pushb, con, dcon, wait, fire, end, enter, finish, move_action, action_check, effect}
use Rattle.rules_spec.specs.Step.{is_next, step_to, check_at}
use Rattle.rules_spec.specs.Walk.{one_more, walk}
use Rattle.rules_spec.specs.Proper.{Proper}
use Rattle.rules_spec.proofs.Tables.{Facts, facts}
use Rattle.rules_spec.proofs.Local.{Wires, wires, change, changes, owner, owner_of, at-owner, Room, changes-one, part-wires, rest-after, instance-other, slot-other}
use Rattle.rules_spec.proofs.Walks.{walk-on, allowed-head, allowed-tail}
use Rattle.rules_spec.proofs.Connections.{Joined, joined-none}
use Rattle.rules_spec.proofs.Proper.{Lawfully, room, action-proper, step-proper}
use Rattle.demands.specs.Exchange.{between, MovesExchange}
use Rattle.demands.proofs.Moves.{is_move, move-is-move, move-changes, move-number, move-after}
use Rattle.demands.proofs.Parts.{Part, part, acted, part-after, whole}

-- d is as c for all that a move of j looks at: its part, the connections, the provider's record and head, the user's record
record Near (c d : Configuration) (j : ℕ) : Type 0 where
  own : instance d j ≡ instance c j
  top : queue_head d j ≡ queue_head c j
  connections : wires d ≡ wires c
  provider : (k : Connection) → Joined c k → k.user ≡ j → (instance d k.provider ≡ instance c k.provider) × (queue_head d k.provider ≡ queue_head c k.provider)
  user : (k : Connection) → Joined c k → k.provider ≡ j → instance d k.user ≡ instance c k.user

-- a test that is only made where i is j
guarded : (i j : ℕ) (a b : Bool) → (i ≡ j → a ≡ b) → (eqb i j && a) ≡ (eqb i j && b)
guarded i j a b f = by-test (eqb i j) (λ e. rw (e, f (eqb-true i j e))) (λ e. rw e)

module _ (t : Tables) (c d : Configuration) (j : ℕ) (near : Near c d j) where
  some_same : (f g : Connection → Bool) → ((k : Connection) → Joined c k → f k ≡ g k) → some_connection d f ≡ some_connection c g
  unfolding in_table
  some_same f g same =
      ap (λ (x : Wires). (in_table x).some f) near.connections
      ∙ any_same 512 _ _ (λ s h. by-test (is_served c.servers s) (λ on. rw (same (connection c s) (s, h, on, refl))) (λ off. rw (off, and-false (f (connection c s)), and-false (g (connection c s)))))

  serves-same : (q : ℕ) → some_connection d (serves t d j q) ≡ some_connection c (serves t c j q)
  unfolding serves
  serves-same q = some_same (serves t d j q) (serves t c j q) (λ k x. guarded k.user j _ _ (λ e. rw (near.provider k x e).0))

  blocks-same : (q : ℕ) → some_connection d (blocks t d j q) ≡ some_connection c (blocks t c j q)
  unfolding blocks
  blocks-same q =
      some_same (blocks t d j q) (blocks t c j q) (λ k x. guarded k.user j _ _ (λ e. rw ((near.provider k x e).0, (near.provider k x e).1)))

  employs-same : (q : ℕ) → some_connection d (employs t d j q) ≡ some_connection c (employs t c j q)
  unfolding employs
  employs-same q = some_same (employs t d j q) (employs t c j q) (λ k x. guarded k.provider j _ _ (λ e. rw (near.user k x e)))

  linked-same : (q : ℕ) → some_connection d (is_of j q) ≡ some_connection c (is_of j q)
  linked-same q = ap (λ (x : Wires). (in_table x).some (is_of j q)) near.connections

  ports-same : (v w : Instance) → port_check t (standing d) d j v w ≡ port_check t (standing c) c j v w
  unfolding port_check fails_unconnected fails_unserved fails_refusing fails_in_use
  ports-same v w =
      rw (
        any_same (ports_of t v) (fails_unconnected t (standing d) d j w) (fails_unconnected t (standing c) c j w) (λ q h. rw (linked-same q)),
        any_same (ports_of t v) (fails_unserved t (standing d) d j w) (fails_unserved t (standing c) c j w) (λ q h. rw (serves-same q)),
        any_same (ports_of t v) (fails_refusing t (standing d) d j v w) (fails_refusing t (standing c) c j v w) (λ q h. rw (blocks-same q)),
        any_same (ports_of t v) (fails_in_use t (standing d) d j v w) (fails_in_use t (standing c) c j v w) (λ q h. rw (employs-same q)),
      )

  -- `fire` and `enter`: a row and the port checks, both told by the record and the head
  passing-same : (row : Instance → ℕ → ℕ) (result : Instance → ℕ → Instance)
      → or_number (row (instance d j) (queue_head d j)) (port_check t (standing d) d j (instance d j) (result (instance d j) (queue_head d j)))
      ≡ or_number (row (instance c j) (queue_head c j)) (port_check t (standing c) c j (instance c j) (result (instance c j) (queue_head c j)))
  passing-same row result = rw (near.own, near.top, ports-same (instance c j) (result (instance c j) (queue_head c j)))

check-same : (default : ℕ) (t : Tables) (c d : Configuration) (a : Action) → is_move a ≡ true → Near c d (owner_of a) → check_at default t d a ≡ check_at default t c a
unfolding is_move action_check change owner fire_check enter_check end_check finish_check
check-same default t c d (fire i p) m near =
    passing-same t c d i near (λ v h. fire_row v p (leaving t v.kind (current t v h) p)) (λ v h. fired v p (leaving t v.kind (current t v h) p))
check-same default t c d (enter i p) m near =
    passing-same t c d i near (λ v h. enter_row v p (entering t v.kind (current t v h) p)) (λ v h. entered v p (entering t v.kind (current t v h) p))
check-same default t c d (end i x) m near = rw near.own
check-same default t c d (finish i) m near = ap₂ (λ (v : Instance) (h : ℕ). finish_row t v (current t v h)) near.own near.top
check-same default t c d (add i k) m near = absurd (false≢true m)
check-same default t c d (del i) m near = absurd (false≢true m)
check-same default t c d (pushb i b) m near = absurd (false≢true m)
check-same default t c d (con k) m near = absurd (false≢true m)
check-same default t c d (dcon k) m near = absurd (false≢true m)
check-same default t c d (wait i) m near = absurd (false≢true m)

-- a is a move of i
pub record MoveOf (a : Action) (i : ℕ) : Type 0 where
  pub is-move : is_move a ≡ true
  pub mine : changes a i ≡ true

-- no connection between i and j
abbrev Apart : Configuration → ℕ → ℕ → Type 0
Apart c i j = (k : Connection) → Joined c k → (k.user ≡ i → k.provider ≡ j → ⊥) × (k.user ≡ j → k.provider ≡ i → ⊥)

apart-is : (c : Configuration) (i j : ℕ) → some_connection c (between i j) ≡ false → Apart c i j
unfolding between
apart-is c i j e k x =
    let none = joined-none c (between i j) k e x in
    (λ u v. false≢true (sym none ∙ rw (eq-eqb _ _ u, eq-eqb _ _ v)), λ u v. false≢true (sym none ∙ rw (eq-eqb _ _ u, eq-eqb _ _ v) (or-true (eqb k.user i && eqb k.provider j))))

-- a move adds nothing and pushes nothing
move-lawfully : (t : Tables) (p : Program) {a : Action} {i : ℕ} → MoveOf a i → Lawfully t p a
unfolding is_move
move-lawfully t p m =
    record { added = λ j k e. absurd (false≢true (sym (ap is_move e) ∙ m.is-move)); pushed = λ j b e. absurd (false≢true (sym (ap is_move e) ∙ m.is-move)) }

module _ (default : ℕ) (t : Tables) (p : Program) (law : Facts default t p) where
  module _ (c : Configuration) (now : Proper default t p c) (a : Action) (i : ℕ) (m : MoveOf a i) (ok : check_at default t c a ≡ 0) where
    move-proper : Proper default t p (effect t c a)
    move-proper = action-proper default t p law c now a (move-lawfully t p m) ok

    -- a move of i leaves what a move of j looks at
    near-after : (j : ℕ) → j ≢ i → Apart c i j → Near c (effect t c a) j
    near-after j other apart =
        record {
          own = instance-other t c a j (changes-one a i j m.mine other);
          top = slot-other t c a now.queue-length fits j (changes-one a i j m.mine other) 0 (omega arith);
          connections = part-wires t c a i m.mine;
          provider = λ k x e.
              let f = changes-one a i k.provider m.mine (λ q. (apart k x).1 e q) in
              (instance-other t c a k.provider f, slot-other t c a now.queue-length fits k.provider f 0 (omega arith));
          user = λ k x e. instance-other t c a k.user (changes-one a i k.user m.mine (λ q. (apart k x).0 q e));
        }
      where
        fits : Room c a
        fits = room default t p law c now a (move-lawfully t p m) ok

    number-kept : (b : Action) (j : ℕ) → MoveOf b j → j ≢ i → Apart c i j → check_at default t (effect t c a) b ≡ check_at default t c b
    number-kept b j n other apart =
        at-owner (λ (k : ℕ). Near c (effect t c a) k → check_at default t (effect t c a) b ≡ check_at default t c b) b j n.mine
        (λ _ near. check-same default t c (effect t c a) b n.is-move near) (near-after j other apart)

    move-part : (k : ℕ) → k < 32 → part (effect t c a) k ≡ acted t k a (part c k)
    move-part = part-after default t p law c now a (move-lawfully t p m) ok

  -- ---- a move a of i and a move b of j, one after the other
  module _ (c : Configuration) (now : Proper default t p c) (a b : Action) (i j : ℕ) (m : MoveOf a i) (n : MoveOf b j) (other : i ≢ j) (apart : Apart c i j)
      (ea : check_at default t c a ≡ 0) (eb : check_at default t (effect t c a) b ≡ 0) where
    second-first : check_at default t c b ≡ 0
    second-first = sym (number-kept c now a i m ea b j n (λ q. other (sym q)) apart) ∙ eb

    first-second : check_at default t (effect t c b) a ≡ 0
    first-second = number-kept c now b j n second-first a i m other (λ k x. ((apart k x).1, (apart k x).0)) ∙ ea

    swapped : (k : ℕ) (x : Part) → acted t k a (acted t k b x) ≡ acted t k b (acted t k a x)
    unfolding acted
    swapped k x =
        by_cases (ℕ_discrete k i) (λ q. rw (changes-one b j k n.mine (λ f. other (sym q ∙ f)))) (λ q. rw (changes-one a i k m.mine q))

    same_outcome : effect t (effect t c b) a ≡ effect t (effect t c a) b
    same_outcome =
        let first = move-proper c now a i m ea in
        let second = move-proper c now b j n second-first in
        whole default t p (effect t (effect t c b) a) (effect t (effect t c a) b) (move-proper (effect t c b) second a i m first-second) (move-proper (effect t c a) first b j n eb)
        (λ k h. move-part (effect t c b) second a i m first-second k h ∙ ap (acted t k a) (move-part c now b j n second-first k h) ∙ swapped k (part c k)
        ∙ sym (move-part (effect t c a) first b j n eb k h ∙ ap (acted t k b) (move-part c now a i m ea k h)))
        (part-wires t (effect t c b) a i m.mine ∙ part-wires t c b j n.mine ∙ sym (part-wires t (effect t c a) b j n.mine ∙ part-wires t c a i m.mine))
        ((rest-after t (effect t c b) a).done ∙ (rest-after t c b).done ∙ sym ((rest-after t (effect t c a) b).done ∙ (rest-after t c a).done))

-- ---- steps

step_move : (s : Step) → MoveOf (move_action s) s.id
step_move s = record { is-move = move-is-move s; mine = move-changes s }

module _ (default : ℕ) (t : Tables) (p : Program) (law : Facts default t p) where
  walk-move : (c : Configuration) (s : Step) (ss : List Step) → is_next s ≡ false → check_at default t c (move_action s) ≡ 0
      → walk default t p c (s ∷ ss) ≡ one_more (walk default t p (effect t c (move_action s)) ss)
  walk-move c s ss e ok =
      walk-on default t p c s ss (move-number s t p c e default ∙ ok) ∙ ap (λ (d : Configuration). one_more (walk default t p d ss)) (move-after s t p c e)

  module _ (m n : Step) (first : is_next m ≡ false) (second : is_next n ≡ false) (two : m.id ≢ n.id) where
    exchange-here : (c : Configuration) → Proper default t p c → Apart c m.id n.id → (rest : List Step) → (walk default t p c (m ∷ n ∷ rest)).refused ≡ 0
        → walk default t p c (n ∷ m ∷ rest) ≡ walk default t p c (m ∷ n ∷ rest)
    exchange-here c now apart rest ok =
        walk-move c n (m ∷ rest) second x ∙ ap one_more (walk-move (effect t c (move_action n)) m rest first y ∙ ap (λ (d : Configuration). one_more (walk default t p d rest)) z)
        ∙ sym (walk-move c m (n ∷ rest) first ea ∙ ap one_more (walk-move (effect t c (move_action m)) n rest second eb))
      where
        ea : check_at default t c (move_action m) ≡ 0
        ea = sym (move-number m t p c first default) ∙ allowed-head default t p c m (n ∷ rest) ok

        eb : check_at default t (effect t c (move_action m)) (move_action n) ≡ 0
        eb =
            sym (move-number n t p (effect t c (move_action m)) second default)
            ∙ (rw (move-after m t p c first) at (allowed-head default t p (step_to t p c m) n rest (allowed-tail default t p c m (n ∷ rest) ok)))

        x : check_at default t c (move_action n) ≡ 0
        x = second-first default t p law c now (move_action m) (move_action n) m.id n.id (step_move m) (step_move n) two apart ea eb

        y : check_at default t (effect t c (move_action n)) (move_action m) ≡ 0
        y = first-second default t p law c now (move_action m) (move_action n) m.id n.id (step_move m) (step_move n) two apart ea eb

        z : effect t (effect t c (move_action n)) (move_action m) ≡ effect t (effect t c (move_action m)) (move_action n)
        z = same_outcome default t p law c now (move_action m) (move_action n) m.id n.id (step_move m) (step_move n) two apart ea eb

    -- from any proper configuration
    pub exchange-from : (before : List Step) (c : Configuration) → Proper default t p c
        → some_connection (walk default t p c before).configuration (between m.id n.id) ≡ false → (rest : List Step)
        → (walk default t p c (before ++ m ∷ n ∷ rest)).refused ≡ 0 → walk default t p c (before ++ n ∷ m ∷ rest) ≡ walk default t p c (before ++ m ∷ n ∷ rest)
    unfolding walk one_more
    exchange-from [] c now apart rest ok = exchange-here c now (apart-is c m.id n.id apart) rest ok
    exchange-from (s ∷ before) c now apart rest ok =
        let e = allowed-head default t p c s (before ++ m ∷ n ∷ rest) ok in
        walk-on default t p c s (before ++ n ∷ m ∷ rest) e
        ∙ ap one_more
        (exchange-from before (step_to t p c s) (step-proper default t p law c s now e)
        (rw (walk-on default t p c s before e) at apart) rest (allowed-tail default t p c s (before ++ m ∷ n ∷ rest) ok))
        ∙ sym (walk-on default t p c s (before ++ m ∷ n ∷ rest) e)

pub moves-exchange : MovesExchange
unfolding MovesExchange
moves-exchange default t p c before rest m n small law b e ok =
    let same = exchange-from default t p (facts default t p small law) m n e.first e.second e.two before c b.permitted.proper e.unconnected rest ok in
    (ap (λ (w : Walked). w.refused) same ∙ ok, same)
