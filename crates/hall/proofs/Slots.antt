-- What an allowed step leaves in every slot, from what the rules' proofs say of an action's effect (rules/proofs/Local).
-- Assumes nothing.
use mathlib.Core.Path.{◌≡◌, refl, sym, ap, ◌∙◌}
use mathlib.Core.Bool.{true, false, ◌&&◌, cond}
use Prim.Native.Nat.{ℕ, ◌≤◌, ◌<◌}
use native.Mathlib.Omega.{arith}
use lib.Dec.{eqb, leb}
use lib.ListN.{length, set}
use lib.Seq.{get_or-set_same, get_or-set_other}
use borrow.Author.Tests.{eqb-true, eqb-false, eq-eqb, ne_eqb, le-ltb, leb-true}
use Rattle.item_spec.proofs.Tests.{by-test, and_left, and_right}
use Rattle.sets.specs.Test.{all_below}
use Rattle.sets.proofs.Laws.{all-at}
use Rattle.model.specs.declared.Tables.{Tables}
use Rattle.model.specs.declared.Program.{Program}
use Rattle.model.specs.declared.Step.{Step}
use Rattle.model.specs.declared.Configuration.{Configuration}
use Rattle.model.specs.Empty.{no_server}
use Rattle.model.specs.View.{type_of, instance, slot, queue_head, server, with_servers, with_done}
use Rattle.read_spec.specs.Limits.{type_ok, mask_ok}
use Rattle.read_spec.specs.Lawful.{tables_lawful, program_lawful, step_lawful, Lawful}
use Rattle.rules_spec.specs.PushB.{depth_of}
use Rattle.rules_spec.specs.Con.{connected}
use Rattle.rules_spec.specs.DCon.{disconnected}
use Rattle.rules_spec.specs.Action.{Action, add, del, pushb, con, dcon, wait, fire, end, enter, finish, action_check, effect}
use Rattle.rules_spec.specs.Step.{check_at, step_check, step_to, action}
use Rattle.rules_spec.proofs.Local.{shifted, Wires, change, touches, changes, self, turn, turned_slot, own_instance, own_slot, Fits, Roomy, Room, instance-own, instance-other, slot-own, slot-other, part-wires}
use Rattle.rules_spec.proofs.Allowed.{del-facts, pushb-facts, fire-facts, end-facts, enter-facts, finish-facts, present-in}
use Rattle.rules_spec.proofs.Tables.{facts}
use Rattle.rules_spec.proofs.Proper.{Lawfully, step-lawfully}
use Rattle.rules_spec.proofs.Walks.{step-on, number-facts, after-cases, after-done}
use Rattle.judge_spec.specs.Course.{default_depth}
use Rattle.hall_configuration.specs.Lawful.{numbers_lawful, instance_lawful, configuration_lawful}
use Rattle.hall.specs.Screen.{lent_lawful, hall_step}
use Rattle.hall.specs.Slots.{Whole, Holds, in_instance, served_by, gap_closed, slots, EverySlot}
use Rattle.hall.proofs.Screen.{step-number}

module _ (t : Tables) (c : Configuration) (whole : Whole c) where
  -- an action on instance i
  owned : (a : Action) (i : ℕ) → ((j : ℕ) → changes a j ≡ eqb i j) → Room c a
      → Holds (effect t c a) (in_instance c i (own_instance t (instance c i) (queue_head c i) a) (own_slot (instance c i).queued (slot c i) a))
  owned a i h room = record {
    instances = λ j l. by-test (eqb j i) (λ e. rw (e, eqb-true j i e) (instance-own t c a i mine (in_array j l (eqb-true j i e)))) (λ e. rw e (instance-other t c a j (other j e)));
    queues = λ j r l g. by-test (eqb j i) (λ e. rw (e, eqb-true j i e) (slot-own t c a whole.queue room i mine r g)) (λ e. rw e (slot-other t c a whole.queue room j (other j e) r g));
    servers = λ s g. ap (λ (x : Wires). server x s) (part-wires t c a i mine);
  }
    where
      mine : changes a i ≡ true
      mine = h i ∙ eq-eqb i i refl

      other : (j : ℕ) → eqb j i ≡ false → changes a j ≡ false
      other j e = h j ∙ ne_eqb i j (λ q. eqb-false j i e (sym q))

      in_array : (j : ℕ) → j < 32 → j ≡ i → i < length c.instances
      in_array j l e = omega (arith, whole.instances)

  -- the head of a queue goes
  head-gone : (n : ℕ) (f : ℕ → ℕ) (r : ℕ) → turned_slot shifted n f r ≡ gap_closed 0 0 n f r
  unfolding turned_slot gap_closed
  head-gone n f r = rw (le-ltb r 0 (omega arith))

  -- a slot of the table set
  slot-set : (a v s : ℕ) → s < 512 → server (set c.servers a v) s ≡ served_by c a v s
  slot-set a v s h =
      by-test (eqb s a)
      (λ e. let own = eqb-true s a e in rw (e, own) (get_or-set_same c.servers a v no_server (omega (arith, whole.servers))))
      (λ e. rw e (get_or-set_other c.servers a s v no_server (eqb-false s a e)))

  module _ (depth : depth_of default_depth t ≤ 8)
      (short : (i : ℕ) → (instance c i).present ≡ true → (instance c i).queued ≤ depth_of default_depth t) where
    in_array : (i : ℕ) → (instance c i).present ≡ true → i < 32
    in_array i e = omega (arith, present-in c i e, whole.instances)

    room : (p : Program) (a : Action) → Lawfully t p a → check_at default_depth t c a ≡ 0 → Room c a
    unfolding action_check change Roomy Fits
    room p (add i k) new e = ((new.added i k refl).0, tt)
    room p (del i) new e = (in_array i (del-facts c i e).present, tt)
    room p (pushb i b) new e = let f = pushb-facts default_depth t c i b e in (in_array i f.present, omega (arith, f.short))
    room p (con k) new e = tt
    room p (dcon k) new e = tt
    room p (wait i) new e = tt
    room p₁ (fire i p) new e = (in_array i (fire-facts t c i p e).row.present, tt)
    room p (end i x) new e = (in_array i (end-facts c i x e).present, tt)
    room p₁ (enter i p) new e = (in_array i (enter-facts t c i p e).row.present, tt)
    room p (finish i) new e =
        let f = finish-facts t c i e in
        let h = short i f.present in
        (in_array i f.present, (f.queued, omega arith))

    holds : (p : Program) (a : Action) → Lawfully t p a → check_at default_depth t c a ≡ 0 → Holds (effect t c a) (slots t c a)
    unfolding action_check effect change touches self turn turned_slot slots connected disconnected with_servers
    holds p (add i k) new e = owned (add i k) i (λ j. refl) (room p (add i k) new e)
    holds p (del i) new e = owned (del i) i (λ j. refl) (room p (del i) new e)
    holds p (pushb i b) new e = owned (pushb i b) i (λ j. refl) (room p (pushb i b) new e)
    holds p (con k) new e = record { instances = λ j l. refl; queues = λ j r l g. refl; servers = slot-set _ _ }
    holds p (dcon k) new e = record { instances = λ j l. refl; queues = λ j r l g. refl; servers = slot-set _ no_server }
    holds p (wait i) new e = record { instances = λ j l. refl; queues = λ j r l g. refl; servers = λ s l. refl }
    holds p₁ (fire i p) new e = owned (fire i p) i (λ j. refl) (room p₁ (fire i p) new e)
    holds p (end i x) new e = owned (end i x) i (λ j. refl) (room p (end i x) new e)
    holds p₁ (enter i p) new e = owned (enter i p) i (λ j. refl) (room p₁ (enter i p) new e)
    holds p (finish i) new e =
        let o = owned (finish i) i (λ j. refl) (room p (finish i) new e) in
        record {
          instances = o.instances;
          queues = λ j r l g. o.queues j r l g ∙ ap (λ (x : ℕ). cond (eqb j i) x (slot c j r)) (head-gone (instance c i).queued (slot c i) r);
          servers = o.servers;
        }

module _ (t : Tables) (p : Program) (c : Configuration) (s : Step) (whole : Whole c) (lawful : lent_lawful t p c s ≡ true) where
  law : Lawful t p
  unfolding Lawful lent_lawful
  law = (and_left (tables_lawful t) _ lawful, and_right (eqb p.edition 1) _ (and_left (eqb p.edition 1 && program_lawful t.count p) _ (and_right (tables_lawful t) _ lawful)))

  lent : configuration_lawful default_depth t p c ≡ true
  unfolding lent_lawful
  lent = and_right (step_lawful s) _ (and_right (eqb p.edition 1 && program_lawful t.count p) _ (and_right (tables_lawful t) _ lawful))

  short : (i : ℕ) → (instance c i).present ≡ true → (instance c i).queued ≤ depth_of default_depth t
  unfolding configuration_lawful instance_lawful numbers_lawful
  short i here =
      let h = all-at 32 (instance_lawful default_depth t c) (and_left (all_below 32 (instance_lawful default_depth t c)) _ lent) i (omega (arith, present-in c i here, whole.instances)) in
      leb-true _ _ (and_left (leb (instance c i).queued (depth_of default_depth t)) _
      (and_right (mask_ok (type_of t (instance c i).kind).transitions (instance c i).ended) _
      (and_right (mask_ok (type_of t (instance c i).kind).transitions (instance c i).running) _
      (and_right (mask_ok (type_of t (instance c i).kind).places (instance c i).marked) _
      (and_right (type_ok t.count (instance c i).kind) _ (rw here at h))))))

  each : step_check default_depth t p c s ≡ 0 → Holds (step_to t p c s) (slots t c (action p c s))
  unfolding with_done
  each e =
      let l = facts default_depth t p (omega arith) law in
      let h = holds t c whole l.depth short p (action p c s) (step-lawfully default_depth t p l c s e) (number-facts default_depth t p c s e).0 in
      after-cases t p (λ (d : Configuration). Holds d (slots t c (action p c s))) c s
      (λ _. record { instances = h.instances; queues = h.queues; servers = h.servers }) (λ _. h)

pub every-slot : EverySlot
unfolding EverySlot hall_step
every-slot t p c s whole ok =
    by-test (lent_lawful t p c s)
    (λ lawful.
    let e : step_check default_depth t p c s ≡ 0 = sym (step-number t p c s) ∙ (rw lawful at ok) in
    rw (lawful, step-on default_depth t p c s e) (each t p c s whole lawful e, after-done t p c s))
    (λ broken. absurd (omega (arith, rw broken at ok)))
