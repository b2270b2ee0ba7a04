-- The part of a component, its record and its eight slots: an action gives the new part from the old one alone, and parts, connections and
-- the instructions done are the whole configuration.
-- Assumes nothing.
use mathlib.Core.Path.{◌≡◌, refl, sym, ap, ap₂, ◌∙◌}
use mathlib.Core.Bool.{cond}
use mathlib.Core.List.{List}
use Prim.Native.Nat.{ℕ, suc, ◌<◌}
use native.Mathlib.Omega.{arith}
use lib.Dec.{eqb, ltb}
use lib.ListN.{get_or}
use borrow.Author.Tests.{ltb-true}
use Rattle.item_spec.proofs.Tests.{by-test}
use Rattle.model.specs.declared.Tables.{Tables}
use Rattle.model.specs.declared.Instance.{Instance}
use Rattle.model.specs.declared.Configuration.{Configuration}
use Rattle.model.specs.View.{instance, slot, list_of}
use Rattle.model.proofs.View.{list_same, list_at, same-instances, same-queues, same-fields}
use Rattle.rules_spec.specs.Action.{Action, effect}
use Rattle.rules_spec.specs.Step.{check_at}
use Rattle.rules_spec.specs.Proper.{Proper}
use Rattle.model.specs.declared.Program.{Program}
use Rattle.rules_spec.proofs.Tables.{Facts}
use Rattle.rules_spec.proofs.Local.{Turn, stays, cleared, shifted, appended, wires, change, changes, own_instance, turn, turned_slot, own_slot, Fits, Room, room-own, instance-own, instance-other, slot-own, slot-other}
use Rattle.rules_spec.proofs.Proper.{Lawfully, room}

pub record Part : Type 0 where
  pub self : Instance
  pub slots : List ℕ

abbrev pub part : Configuration → ℕ → Part
part c i = record { self = instance c i; slots = list_of 8 (slot c i) }

-- the part of component i after an action
unfoldable pub acted : Tables → ℕ → Action → Part → Part
acted t i a x =
    cond (changes a i)
    (record { self = own_instance t x.self (get_or x.slots 0 0) a; slots = list_of 8 (own_slot x.self.queued (λ r. get_or x.slots r 0) a) })
    x

slots_same : (u : Turn) (n : ℕ) (f g : ℕ → ℕ) → Fits u n → ((r : ℕ) → r < 8 → f r ≡ g r) → (r : ℕ) → r < 8 → turned_slot u n f r ≡ turned_slot u n g r
unfolding turned_slot Fits
slots_same stays n f g fit e r l = e r l
slots_same cleared n f g fit e r l = refl
slots_same (appended b) n f g fit e r l = ap (λ (x : ℕ). cond (eqb r n) b x) (e r l)
slots_same shifted n f g fit e r l =
    by-test (ltb (suc r) n) (λ q. let h = ltb-true (suc r) n q in rw q (e (suc r) (omega arith))) (λ q. rw q (ap (λ (x : ℕ). cond (eqb (suc r) n) 0 x) (e r l)))

parts_same : {v w : Instance} {s u : List ℕ} → v ≡ w → s ≡ u → ◌≡◌ {A = Part} (record { self = v; slots = s }) (record { self = w; slots = u })
parts_same = ap₂ (λ (v : Instance) (s : List ℕ). record { self = v; slots = s })

pub part-after : (default : ℕ) (t : Tables) (p : Program) → Facts default t p → (c : Configuration) → Proper default t p c
    → (a : Action) → Lawfully t p a → check_at default t c a ≡ 0 → (i : ℕ) → i < 32 → part (effect t c a) i ≡ acted t i a (part c i)
unfolding acted
part-after default t p law c now a new ok i h =
    by-test (changes a i)
    (λ e. rw e
    (parts_same (instance-own t c a i e (rw now.instances-length h) ∙ ap (λ (n : ℕ). own_instance t (instance c i) n a) (sym (list_at 8 (slot c i) 0 0 (omega arith))))
    (list_same 8 _ _ (λ r l. slot-own t c a now.queue-length fits i e r l
    ∙ slots_same (turn (change a)) (instance c i).queued (slot c i) (λ r. get_or (list_of 8 (slot c i)) r 0) (room-own c a i e fits).1 (λ r m. sym (list_at 8 (slot c i) 0 r m)) r l))))
    (λ e. rw e (parts_same (instance-other t c a i e) (list_same 8 _ _ (slot-other t c a now.queue-length fits i e))))
  where
    fits : Room c a
    fits = room default t p law c now a new ok

-- parts, connections and the instructions done are all
pub whole : (default : ℕ) (t : Tables) (p : Program) (c d : Configuration) → Proper default t p c → Proper default t p d
    → ((i : ℕ) → i < 32 → part c i ≡ part d i) → wires c ≡ wires d → c.done ≡ d.done → c ≡ d
whole default t p c d now then same connections done =
    same-fields c d (same-instances c d now.instances-length then.instances-length (λ i h. ap (λ (x : Part). x.self) (same i h)))
    (same-queues c d now.queue-length then.queue-length slots) connections done
  where
    slots : (i r : ℕ) → i < 32 → r < 8 → slot c i r ≡ slot d i r
    slots i r h l = sym (list_at 8 (slot c i) 0 r l) ∙ ap (λ (x : Part). get_or x.slots r 0) (same i h) ∙ list_at 8 (slot d i) 0 r l
