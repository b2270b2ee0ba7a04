-- Each allowed step of a proper configuration leads to a proper one, and so does a walk.
-- Assumes nothing.
use mathlib.Core.Path.{◌≡◌, refl, sym, ap, ◌∙◌}
use mathlib.Core.Logic.{⊎_elim, by_cases}
use mathlib.Core.Bool.{Bool, true, false, not, cond, and-eq-true_iff, false≢true}
use mathlib.Core.List.{List}
use Prim.Native.Nat.{ℕ, suc, ◌-◌, ◌≤◌, ◌<◌}
use native.Mathlib.Omega.{arith}
use native.Mathlib.Decide.{ℕ_discrete}
use lib.Dec.{eqb}
use borrow.Author.Tests.{eqb-true, eq-eqb, ne_eqb, lt-ltb}
use Rattle.sets.specs.Mask.{member, collect, only, overlaps}
use Rattle.sets.proofs.Tally.{tally-none}
use Rattle.sets.proofs.Laws.{any_some, has-any, collect-lt, member-only, member-with, member-without, member-joined, overlaps-none}
use Rattle.item_spec.proofs.Tests.{by-test}
use Rattle.model.specs.declared.Tables.{Tables}
use Rattle.model.specs.declared.Program.{Program}
use Rattle.model.specs.declared.Step.{Step}
use Rattle.model.specs.declared.Instance.{Instance}
use Rattle.model.specs.declared.Connection.{Connection}
use Rattle.model.specs.declared.Configuration.{Configuration}
use Rattle.model.specs.Empty.{start}
use Rattle.model.specs.View.{type_of, destination, instance, is_served, connection, slot, queue_head, behavior_in, with_done}
use Rattle.model.proofs.View.{start-instance, start-lengths, start-unserved}
use Rattle.rules_spec.specs.Instance.{held, current, ends_at, leaving, entering, fired, ended_by, entered, with_queued}
use Rattle.rules_spec.specs.Add.{fresh}
use Rattle.rules_spec.specs.PushB.{Push, depth_of}
use Rattle.rules_spec.specs.Action.{Action, add, del, pushb, con, dcon, wait, fire, end, enter, finish, move_action, action_check, effect}
use Rattle.rules_spec.specs.Step.{is_next, action_at, action, check_at, step_check, step_to}
use Rattle.rules_spec.specs.Walk.{walk}
use Rattle.rules_spec.specs.Proper.{slot_limit, ProperInstance, Joins, Proper, WalksAreProper}
use Rattle.rules_spec.proofs.Masks.{in-collect, none-in-zero, neither, in_without, in-joined, in-with}
use Rattle.rules_spec.proofs.Actions.{not-push, move-no-push, not-add, move-no-add}
use Rattle.rules_spec.proofs.Tables.{Facts, facts}
use Rattle.rules_spec.proofs.Local.{shifted, appended, Change, part, wiring, change, touches, changes, owner, owner_of, at-owner, self, own_instance, turn, turned_slot, own_slot, Fits, Roomy, Room, instance-own, instance-other, slot-own, slot-other, rest-after}
use Rattle.rules_spec.proofs.Allowed.{pushb-facts, fire-facts, enter-facts, end-facts, finish-facts, owner-known, present-in}
use Rattle.rules_spec.proofs.Walks.{walk-keeps, number-facts, after-cases}
use Rattle.rules_spec.proofs.Connections.{count-is, Small, joins-alike, wired-after}

-- an `add` has an id below 32 and a type that exists, and what is pushed is within the limit
pub record Lawfully (t : Tables) (p : Program) (a : Action) : Type 0 where
  pub added : (i k : ℕ) → a ≡ add i k → (i < 32) × (k < t.count)
  pub pushed : (i : ℕ) (b : Push) → a ≡ pushb i b → b.slot < slot_limit p

-- ---- one instance's part

module _ (default : ℕ) (t : Tables) (p : Program) (law : Facts default t p) where
  module _ (v : Instance) (s : ℕ → ℕ) (ok : ProperInstance default t p v s) where
    -- the transitions of the current behavior that have this end at q
    ending-in : (side : ℕ → ℕ) (q : ℕ) → 0 < v.queued → (x : ℕ) → member x (collect 32 (ends_at side (current t v (s 0)) q)) ≡ true
        → (x < (type_of t v.kind).transitions) × (side x ≡ q)
    unfolding ends_at current
    ending-in side q h x m =
        let (a, b) = (and-eq-true_iff (member x (current t v (s 0))) _).0 (in-collect 32 _ x m).1 in
        ((law.types v.kind ok.kind).behavior (behavior_in (s 0)) x (ok.queue 0 h) (rw (ne_eqb v.queued 0 (λ e. omega arith)) at a), eqb-true (side x) q b)

    fire-proper : (q : ℕ) → 0 < v.queued → overlaps (leaving t v.kind (current t v (s 0)) q) (held v) ≡ false
        → ProperInstance default t p (fired v q (leaving t v.kind (current t v (s 0)) q)) s
    unfolding fired leaving
    fire-proper q h free =
        record {
          kind = ok.kind;
          marked = λ x m. ok.marked x (in_without x v.marked _ m).0;
          running = λ x m. ⊎_elim (ok.running x) (λ r. (ending-in _ q h x r).0) (in-joined x v.running _ m);
          ended = ok.ended;
          disjoint = λ x m. ⊎_elim (ok.disjoint x) (λ r. untouched x (in-collect 32 _ x m).0 r) (in-joined x v.running _ m);
          short = ok.short;
          queue = ok.queue;
          tickets = ok.tickets;
        }
      where
        untouched : (x : ℕ) → x < 32 → member x (leaving t v.kind (current t v (s 0)) q) ≡ true → member x v.ended ≡ false
        untouched x l m =
            (neither (member x v.running) (member x v.ended) (sym (member-joined x v.running v.ended l) ∙ overlaps-none _ (held v) free x l m)).1

    end-proper : (y : ℕ) → member y v.running ≡ true → ProperInstance default t p (ended_by v y) s
    unfolding ended_by
    end-proper y on =
        record {
          kind = ok.kind;
          marked = ok.marked;
          running = λ x m. ok.running x (in_without x v.running _ m).0;
          ended = λ x m. ⊎_elim (ok.ended x) (λ r. ok.running x (rw (eqb-true x y r) on)) (in-with x y v.ended m);
          disjoint = λ x m.
              let l = (in-collect 32 _ x m).0 in
              let (a, b) = in_without x v.running (only y) m in
              rw (member-with x y v.ended l, ok.disjoint x a) (sym (member-only x y l) ∙ b);
          short = ok.short;
          queue = ok.queue;
          tickets = ok.tickets;
        }

    enter-proper : (q : ℕ) → 0 < v.queued → eqb (entering t v.kind (current t v (s 0)) q) 0 ≡ false
        → ProperInstance default t p (entered v q (entering t v.kind (current t v (s 0)) q)) s
    unfolding entered entering
    enter-proper q h some =
        record {
          kind = ok.kind;
          marked = λ x m. ⊎_elim (ok.marked x) (λ r. rw (eqb-true x q r) place) (in-with x q v.marked m);
          running = λ x m. ok.running x (in_without x v.running _ m).0;
          ended = λ x m. ok.ended x (in_without x v.ended _ m).0;
          disjoint = λ x m. rw (member-without x v.ended _ (in-collect 32 _ x m).0, ok.disjoint x (in_without x v.running _ m).0);
          short = ok.short;
          queue = ok.queue;
          tickets = ok.tickets;
        }
      where
        place : q < (type_of t v.kind).places
        place =
            let xs = entering t v.kind (current t v (s 0)) q in
            let (x, y) = any_some 32 (λ j. member j xs) (sym (has-any 32 xs (collect-lt 32 _)) ∙ ap not some) in
            let (a, e) = ending-in (destination t v.kind) q h x y.1 in
            rw e at ((law.types v.kind ok.kind).destination-is x a)

    -- with n behaviors queued, in the slots u
    queue-proper : (n : ℕ) (u : ℕ → ℕ) → n ≤ depth_of default t → ((r : ℕ) → r < n → (behavior_in (u r) < (type_of t v.kind).behaviors) × (u r < slot_limit p)) → ProperInstance default t p (with_queued v n) u
    unfolding with_queued
    queue-proper n u h f =
        record {
          kind = ok.kind;
          marked = ok.marked;
          running = ok.running;
          ended = ok.ended;
          disjoint = ok.disjoint;
          short = h;
          queue = λ r l. (f r l).0;
          tickets = λ r l. (f r l).1;
        }

    push-proper : (b : ℕ) → behavior_in b < (type_of t v.kind).behaviors → b < slot_limit p → v.queued < depth_of default t
        → ProperInstance default t p (with_queued v (suc v.queued)) (turned_slot (appended b) v.queued s)
    unfolding turned_slot
    push-proper b hb hm hl =
        queue-proper (suc v.queued) _ hl
        (λ r h. by_cases (ℕ_discrete r v.queued) (λ e. rw (eq-eqb r v.queued e) (hb, hm)) (λ n. rw (ne_eqb r v.queued n) (ok.queue r (omega arith), ok.tickets r (omega arith))))

    finish-proper : ProperInstance default t p (with_queued v (v.queued - 1)) (turned_slot shifted v.queued s)
    unfolding turned_slot
    finish-proper =
        queue-proper (v.queued - 1) _ (let h = ok.short in omega arith)
        (λ r h. rw (lt-ltb (suc r) v.queued (omega arith)) (ok.queue (suc r) (omega arith), ok.tickets (suc r) (omega arith)))

    -- the same record with the same eight slots
    same-proper : (w : Instance) (u : ℕ → ℕ) → w ≡ v → ((r : ℕ) → r < 8 → u r ≡ s r) → ProperInstance default t p w u
    unfolding with_queued
    same-proper w u e f =
        rw e (queue-proper v.queued u ok.short (λ r h. let a = ok.short in let b = law.depth in rw (f r (omega arith)) (ok.queue r h, ok.tickets r h)))

  add-proper : (s : ℕ → ℕ) (k : ℕ) → k < t.count → ProperInstance default t p (fresh t k) s
  add-proper s k h =
      record {
        kind = h;
        marked = (law.types k h).initial;
        running = λ x m. absurd (none-in-zero x m);
        ended = λ x m. absurd (none-in-zero x m);
        disjoint = λ x m. absurd (none-in-zero x m);
        short = omega arith;
        queue = λ r l. absurd (omega arith);
        tickets = λ r l. absurd (omega arith);
      }

  -- ---- every instance's part after an action
  module _ (c : Configuration) (now : Proper default t p c) where
    -- the ends of a connection are within the limits
    pub joins-small : (k : Connection) → Joins t c k → Small k
    joins-small k j =
        record {
          user = rw (← now.instances-length) (present-in c k.user j.user);
          useport = omega (arith, j.useport, (law.types (instance c k.user).kind (now.each k.user j.user).kind).ports);
          provider = rw (← now.instances-length) (present-in c k.provider j.provider);
          provideport = omega (arith, j.provideport, (law.types (instance c k.provider).kind (now.each k.provider j.provider).kind).ports);
        }

    own-fits : (a : Action) → check_at default t c a ≡ 0 → Fits (turn (change a)) (instance c (owner_of a)).queued
    unfolding action_check change turn owner Fits
    own-fits (pushb i b) e = let x = (pushb-facts default t c i b e).short in let y = law.depth in omega arith
    own-fits (finish i) e =
        let f = finish-facts t c i e in
        let x = (now.each i f.present).short in
        let y = law.depth in
        (f.queued, omega arith)
    own-fits (add i k) e = tt
    own-fits (del i) e = tt
    own-fits (con k) e = tt
    own-fits (dcon k) e = tt
    own-fits (wait i) e = tt
    own-fits (fire i q) e = tt
    own-fits (end i x) e = tt
    own-fits (enter i q) e = tt

    own-proper : (a : Action) → Lawfully t p a → check_at default t c a ≡ 0 → changes a (owner_of a) ≡ true
        → (own_instance t (instance c (owner_of a)) (queue_head c (owner_of a)) a).present ≡ true
        → ProperInstance default t p (own_instance t (instance c (owner_of a)) (queue_head c (owner_of a)) a) (own_slot (instance c (owner_of a)).queued (slot c (owner_of a)) a)
    unfolding action_check change touches owner self turn turned_slot
    own-proper (add i k) new e q h = add-proper _ k (new.added i k refl).1
    own-proper (del i) new e q h = absurd (false≢true h)
    own-proper (pushb i b) new e q h =
        let f = pushb-facts default t c i b e in push-proper (instance c i) (slot c i) (now.each i f.present) b.slot f.behavior-is (new.pushed i b refl) f.short
    own-proper (con k) new e q h = absurd (false≢true q)
    own-proper (dcon k) new e q h = absurd (false≢true q)
    own-proper (wait i) new e q h = absurd (false≢true q)
    own-proper (fire i x) new e q h =
        let f = (fire-facts t c i x e).row in fire-proper (instance c i) (slot c i) (now.each i f.present) x f.queued f.free
    own-proper (end i x) new e q h = let f = end-facts c i x e in end-proper (instance c i) (slot c i) (now.each i f.present) x f.running
    own-proper (enter i x) new e q h =
        let f = (enter-facts t c i x e).row in enter-proper (instance c i) (slot c i) (now.each i f.present) x f.queued f.some
    own-proper (finish i) new e q h = let f = finish-facts t c i e in finish-proper (instance c i) (slot c i) (now.each i f.present)

    module _ (a : Action) (new : Lawfully t p a) (ok : check_at default t c a ≡ 0) where
      owner-in : changes a (owner_of a) ≡ true → owner_of a < 32
      unfolding change owner
      owner-in q =
          ⊎_elim (λ (i, k, e). rw e (new.added i k e).0) (λ here. rw (← now.instances-length) (present-in c (owner_of a) here)) (owner-known default t c a ok q)

      pub room : Room c a
      unfolding Roomy touches owner turn
      room = go (change a) owner-in (own-fits a ok)
        where
          go : (x : Change) → (touches x (owner x) ≡ true → owner x < 32) → Fits (turn x) (instance c (owner x)).queued → Roomy c x
          go (part i u f) h g = (h (eq-eqb i i refl), g)
          go (wiring w) h g = tt

      each-proper : (j : ℕ) → (instance (effect t c a) j).present ≡ true → ProperInstance default t p (instance (effect t c a) j) (slot (effect t c a) j)
      each-proper j h = by-test (changes a j) own other
        where
          own : changes a j ≡ true → ProperInstance default t p (instance (effect t c a) j) (slot (effect t c a) j)
          own q =
              let w = instance-own t c a j q (rw (← (rest-after t c a).instances) (present-in (effect t c a) j h)) in
              same-proper (own_instance t (instance c j) (queue_head c j) a) (own_slot (instance c j).queued (slot c j) a)
              (at-owner (λ (n : ℕ). (own_instance t (instance c n) (queue_head c n) a).present ≡ true → ProperInstance default t p (own_instance t (instance c n) (queue_head c n) a) (own_slot (instance c n).queued (slot c n) a)) a j q
              (λ r. own-proper a new ok r) (rw w at h))
              (instance (effect t c a) j) (slot (effect t c a) j) w (slot-own t c a now.queue-length room j q)

          other : changes a j ≡ false → ProperInstance default t p (instance (effect t c a) j) (slot (effect t c a) j)
          other q =
              let w = instance-other t c a j q in
              same-proper (instance c j) (slot c j) (now.each j (rw w at h)) (instance (effect t c a) j) (slot (effect t c a) j) w (slot-other t c a now.queue-length room j q)

      pub action-proper : Proper default t p (effect t c a)
      action-proper =
          let wired = wired-after default t c (record { formed = now.connections; few = now.few; full = now.servers-length }) joins-small a ok in
          let rest = rest-after t c a in
          record {
            each = each-proper;
            connections = wired.formed;
            few = wired.few;
            done = rw rest.done now.done;
            instances-length = rest.instances ∙ now.instances-length;
            queue-length = rest.queue ∙ now.queue-length;
            servers-length = wired.full;
          }

-- ---- steps and walks

with-done : (default : ℕ) (t : Tables) (p : Program) (c : Configuration) (n : ℕ) → n ≤ p.count → Proper default t p c → Proper default t p (with_done c n)
unfolding with_done
with-done default t p c n h now =
    record {
      each = now.each;
      connections = λ s h g. joins-alike t c (with_done c n) (connection c s) (refl, refl) (refl, refl) (now.connections s h g);
      few = now.few;
      done = h;
      instances-length = now.instances-length;
      queue-length = now.queue-length;
      servers-length = now.servers-length;
    }

start-done : (p : Program) → start.done ≤ p.count
unfolding start
start-done p = omega arith

pub start-proper : (default : ℕ) (t : Tables) (p : Program) → Proper default t p start
start-proper default t p =
    let (instances, queue, servers) = start-lengths in
    record {
      each = λ i h. absurd (false≢true (sym (ap (λ (v : Instance). v.present) (start-instance i)) ∙ h));
      connections = λ s h on. absurd (false≢true (sym (start-unserved s) ∙ on));
      few = omega (arith, count-is start.servers servers, tally-none 512 (is_served start.servers) start-unserved);
      done = start-done p;
      instances-length = instances;
      queue-length = queue;
      servers-length = servers;
    }

module _ (default : ℕ) (t : Tables) (p : Program) (law : Facts default t p) where
  pub step-lawfully : (c : Configuration) (s : Step) → step_check default t p c s ≡ 0 → Lawfully t p (action p c s)
  unfolding action
  step-lawfully c s e = go (is_next s) (number-facts default t p c s e).1
    where
      go : (b : Bool) → (b ≡ true → c.done < p.count) → Lawfully t p (cond b (action_at p c.done) (move_action s))
      go true h = record { added = λ i k q. law.adds c.done i k (h refl) q; pushed = λ i b q. law.pushes c.done i b (h refl) q }
      go false h = record { added = λ i k q. absurd (not-add (move-no-add s) q); pushed = λ i b q. absurd (not-push (move-no-push s) q) }

  pub step-proper : (c : Configuration) (s : Step) → Proper default t p c → step_check default t p c s ≡ 0 → Proper default t p (step_to t p c s)
  step-proper c s now e =
      let (ok, left) = number-facts default t p c s e in
      let there = action-proper default t p law c now (action p c s) (step-lawfully c s e) ok in
      after-cases t p (Proper default t p) c s (λ n. with-done default t p (effect t c (action p c s)) (suc c.done) (left n) there) (λ n. there)

  -- from any proper configuration
  pub proper-from : (ss : List Step) (c : Configuration) → Proper default t p c → Proper default t p (walk default t p c ss).configuration
  proper-from = walk-keeps default t p (Proper default t p) step-proper

pub walks-are-proper : WalksAreProper
unfolding WalksAreProper
walks-are-proper default t p ss small law = proper-from default t p (facts default t p small law) ss start (start-proper default t p)
