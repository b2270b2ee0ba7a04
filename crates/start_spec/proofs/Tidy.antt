-- Each allowed step of a tidy configuration leads to a tidy one, and so does a walk.
-- Assumes nothing.
use mathlib.Core.Path.{◌≡◌, refl, sym, ◌∙◌}
use mathlib.Core.Logic.{◌⊎◌, ◌≢◌, ⊎_elim, by_cases}
use mathlib.Core.List.{List}
use mathlib.Core.Bool.{Bool, true, false, not, ◌||◌, and-eq-true_iff, false≢true}
use Prim.Native.Nat.{ℕ, suc, ◌-◌, ◌≤◌, ◌<◌}
use native.Mathlib.Omega.{arith}
use native.Mathlib.Decide.{ℕ_discrete}
use lib.Dec.{eqb}
use borrow.Author.Tests.{eqb-true, eq-eqb, ne_eqb, le-ltb, not-false}
use Rattle.sets.specs.Mask.{member, collect, within, joined}
use Rattle.sets.specs.Test.{any_below}
use Rattle.sets.proofs.Laws.{member-joined, within-at, within_of}
use Rattle.item_spec.proofs.Tests.{by-test}
use Rattle.model.specs.declared.Tables.{Tables}
use Rattle.model.specs.declared.Program.{Program}
use Rattle.model.specs.declared.Step.{Step}
use Rattle.model.specs.declared.Instance.{Instance}
use Rattle.model.specs.declared.Configuration.{Configuration}
use Rattle.model.specs.Empty.{absent}
use Rattle.model.specs.View.{instance, slot, queue_head, with_done}
use Rattle.rules_spec.specs.Instance.{held, current, ends_at, leaving, entering, fired, ended_by, entered, with_queued}
use Rattle.rules_spec.specs.Ports.{behavior}
use Rattle.rules_spec.specs.Finish.{may_leave, finish_row, finish_check}
use Rattle.rules_spec.specs.Action.{Action, add, del, pushb, con, dcon, wait, fire, end, enter, finish, action_check, effect}
use Rattle.rules_spec.specs.Step.{action, check_at, step_check, step_to}
use Rattle.rules_spec.specs.Walk.{walk}
use Rattle.rules_spec.specs.Proper.{Proper}
use Rattle.rules_spec.proofs.Masks.{in-collect, none-in-zero, neither, in_without, in-joined, in-with}
use Rattle.rules_spec.proofs.Tables.{Facts, facts}
use Rattle.rules_spec.proofs.Local.{change, touches, changes, owner, owner_of, at-owner, self, own_instance, turn, turned_slot, own_slot, Fits, Room, room-own, instance-own, instance-other, slot-own, slot-other}
use Rattle.rules_spec.proofs.Allowed.{passes, meets, pushb-facts, fire-facts, enter-facts, end-facts, finish-facts}
use Rattle.rules_spec.proofs.Walks.{walk-keeps, number-facts, after-cases}
use Rattle.rules_spec.proofs.Proper.{Lawfully, room, step-lawfully, step-proper}
use Rattle.start_spec.specs.Permitted.{Tidy}
use Rattle.start_spec.specs.Round.{WalksAreTidy}

-- one instance: the record v with the slots s
record TidyAt (t : Tables) (v : Instance) (s : ℕ → ℕ) : Type 0 where
  head : v.present ≡ true → within (held v) (current t v (s 0)) ≡ true
  gone : v.present ≡ false → v ≡ absent
  free : (r : ℕ) → r < 8 → v.queued ≤ r → s r ≡ 0

tidy-at : (t : Tables) (c : Configuration) → Tidy t c → (i : ℕ) → TidyAt t (instance c i) (slot c i)
tidy-at t c h i = record { head = h.head i; gone = h.gone i; free = h.free i }

same-tidy : (t : Tables) (v w : Instance) (s u : ℕ → ℕ) → w ≡ v → ((r : ℕ) → r < 8 → u r ≡ s r) → TidyAt t v s → TidyAt t w u
same-tidy t v w s u e f h =
    rw e (record { head = λ here. rw (f 0 (omega arith)) (h.head here); gone = h.gone; free = λ r l m. f r l ∙ h.free r l m })

-- where nothing is held, nothing is outside
none-held : (v : Instance) (m : ℕ) → within (held v) 0 ≡ true → within (held v) m ≡ true
none-held v m e = within_of (held v) m (λ j l q. absurd (none-in-zero j (within-at (held v) 0 e j l q)))

zero-within : (h m : ℕ) → h ≡ 0 → within h m ≡ true
zero-within h m e = within_of h m (λ j l q. absurd (none-in-zero j (rw e at q)))

-- what is held after is of m, where what was held is
module _ (v w : Instance) (m : ℕ) (old : within (held v) m ≡ true) where
  was-running : (j : ℕ) → j < 32 → member j v.running ≡ true → member j m ≡ true
  was-running j l e = within-at (held v) m old j l (rw (member-joined j v.running v.ended l, e))

  was-ended : (j : ℕ) → j < 32 → member j v.ended ≡ true → member j m ≡ true
  was-ended j l e = within-at (held v) m old j l (rw (member-joined j v.running v.ended l, e) (or_yes (member j v.running)))
    where
      or_yes : (b : Bool) → (b || true) ≡ true
      or_yes true = refl
      or_yes false = refl

  held-within : ((j : ℕ) → j < 32 → member j w.running ≡ true → member j m ≡ true) → ((j : ℕ) → j < 32 → member j w.ended ≡ true → member j m ≡ true) → within (held w) m ≡ true
  held-within f g = within_of (held w) m (λ j l e. ⊎_elim (f j l) (g j l) (in-joined j w.running w.ended e))

-- a fresh instance holds nothing
none-zero : joined 0 0 ≡ 0
unfolding collect member
none-zero = refl

-- what leaves a place is of the behavior
of-set : (t : Tables) (v : Instance) (m x j : ℕ) → member j (leaving t v.kind m x) ≡ true → member j m ≡ true
unfolding leaving ends_at
of-set t v m x j z = ((and-eq-true_iff (member j m) _).0 (in-collect 32 _ j z).1).0

finish-held : (t : Tables) (c : Configuration) (i : ℕ) → finish_check t c i ≡ 0 → held (instance c i) ≡ 0
unfolding finish_check finish_row
finish-held t c i e =
    let v = instance c i in
    let (present, e₁) = meets v.present _ e in
    let (queued, e₂) = passes (eqb v.queued 0) _ e₁ in
    let (early, _) = passes (not (eqb (held v) 0) || any_below 16 (may_leave t v (behavior t c i))) _ e₂ in
    eqb-true (held v) 0 (not-false (eqb (held v) 0) (neither (not (eqb (held v) 0)) _ early).0)

module _ (default : ℕ) (t : Tables) (p : Program) (law : Facts default t p) (c : Configuration) (now : Proper default t p c) (old : Tidy t c) where
  own-tidy : (a : Action) → check_at default t c a ≡ 0 → Fits (turn (change a)) (instance c (owner_of a)).queued → changes a (owner_of a) ≡ true
      → TidyAt t (own_instance t (instance c (owner_of a)) (queue_head c (owner_of a)) a) (own_slot (instance c (owner_of a)).queued (slot c (owner_of a)) a)
  unfolding action_check change touches owner self turn turned_slot Fits fired ended_by entered with_queued current
  own-tidy (add i k) e f q =
      record { head = λ here. zero-within _ _ none-zero; gone = λ off. absurd (false≢true (sym off)); free = λ r l m. refl }
  own-tidy (del i) e f q = record { head = λ here. absurd (false≢true here); gone = λ off. refl; free = λ r l m. refl }
  own-tidy (pushb i b) e f q =
      let v = instance c i in
      let here = (pushb-facts default t c i b e).present in
      let h = old.head i here in
      record {
        head = λ _. by_cases (ℕ_discrete v.queued 0)
            (λ z. none-held v _ (rw (eq-eqb v.queued 0 z) at h))
            (λ z. rw (ne_eqb (suc v.queued) 0 (λ w. omega arith), ne_eqb 0 v.queued (λ w. z (sym w))) (rw (ne_eqb v.queued 0 z) at h));
        gone = λ off. absurd (false≢true (sym off ∙ here));
        free = λ r l m. rw (ne_eqb r v.queued (λ w. omega arith)) (old.free i r l (omega arith));
      }
  own-tidy (con k) e f q = absurd (false≢true q)
  own-tidy (dcon k) e f q = absurd (false≢true q)
  own-tidy (wait i) e f q = absurd (false≢true q)
  own-tidy (fire i x) e f q =
      let v = instance c i in
      let here = (fire-facts t c i x e).row.present in
      let m = current t v (queue_head c i) in
      let h = old.head i here in
      record {
        head = λ _. held-within v (fired v x (leaving t v.kind m x)) m h
            (λ j l r. ⊎_elim (was-running v (fired v x (leaving t v.kind m x)) m h j l) (λ z. of-set t v m x j z) (in-joined j v.running _ r))
            (λ j l r. was-ended v (fired v x (leaving t v.kind m x)) m h j l r);
        gone = λ off. absurd (false≢true (sym off ∙ here));
        free = old.free i;
      }
  own-tidy (end i x) e f q =
      let v = instance c i in
      let g = end-facts c i x e in
      let m = current t v (queue_head c i) in
      let h = old.head i g.present in
      record {
        head = λ _. held-within v (ended_by v x) m h
            (λ j l r. was-running v (ended_by v x) m h j l (in_without j v.running _ r).0)
            (λ j l r. ⊎_elim (was-ended v (ended_by v x) m h j l) (λ z. was-running v (ended_by v x) m h j l (rw (eqb-true j x z) g.running)) (in-with j x v.ended r));
        gone = λ off. absurd (false≢true (sym off ∙ g.present));
        free = old.free i;
      }
  own-tidy (enter i x) e f q =
      let v = instance c i in
      let here = (enter-facts t c i x e).row.present in
      let m = current t v (queue_head c i) in
      let h = old.head i here in
      let w = entered v x (entering t v.kind m x) in
      record {
        head = λ _. held-within v w m h
            (λ j l r. was-running v w m h j l (in_without j v.running _ r).0)
            (λ j l r. was-ended v w m h j l (in_without j v.ended _ r).0);
        gone = λ off. absurd (false≢true (sym off ∙ here));
        free = old.free i;
      }
  own-tidy (finish i) e f q =
      let v = instance c i in
      let here = (finish-facts t c i e).present in
      record {
        head = λ _. zero-within (held v) _ (finish-held t c i e);
        gone = λ off. absurd (false≢true (sym off ∙ here));
        free = λ r l m. rw (le-ltb (suc r) v.queued (omega arith)) (by_cases (ℕ_discrete (suc r) v.queued)
            (λ z. rw (eq-eqb (suc r) v.queued z)) (λ z. rw (ne_eqb (suc r) v.queued z) (old.free i r l (omega arith))));
      }

  action-tidy : (a : Action) → Lawfully t p a → check_at default t c a ≡ 0 → Tidy t (effect t c a)
  action-tidy a new ok = record { head = λ i. (at i).head; gone = λ i. (at i).gone; free = λ i. (at i).free }
    where
      fits : Room c a
      fits = room default t p law c now a new ok

      at : (i : ℕ) → TidyAt t (instance (effect t c a) i) (slot (effect t c a) i)
      at i = by-test (changes a i)
          (λ q. let (inside, fit) = room-own c a i q fits in
          same-tidy t (own_instance t (instance c i) (queue_head c i) a) (instance (effect t c a) i) (own_slot (instance c i).queued (slot c i) a) (slot (effect t c a) i)
          (instance-own t c a i q (rw now.instances-length inside)) (slot-own t c a now.queue-length fits i q)
          (at-owner (λ (n : ℕ). Fits (turn (change a)) (instance c n).queued → TidyAt t (own_instance t (instance c n) (queue_head c n) a) (own_slot (instance c n).queued (slot c n) a)) a i q
          (λ r g. own-tidy a ok g r) fit))
          (λ q. same-tidy t (instance c i) (instance (effect t c a) i) (slot c i) (slot (effect t c a) i) (instance-other t c a i q) (slot-other t c a now.queue-length fits i q) (tidy-at t c old i))

module _ (default : ℕ) (t : Tables) (p : Program) (law : Facts default t p) where
  step-tidy : (c : Configuration) (s : Step) → Proper default t p c × Tidy t c → step_check default t p c s ≡ 0 → Proper default t p (step_to t p c s) × Tidy t (step_to t p c s)
  unfolding with_done
  step-tidy c s (now, old) e =
      let there = action-tidy default t p law c now old (action p c s) (step-lawfully default t p law c s e) (number-facts default t p c s e).0 in
      (step-proper default t p law c s now e, after-cases t p (Tidy t) c s (λ _. record { head = there.head; gone = there.gone; free = there.free }) (λ _. there))

  -- from any proper and tidy configuration
  pub tidy-from : (ss : List Step) (c : Configuration) → Proper default t p c × Tidy t c → Proper default t p (walk default t p c ss).configuration × Tidy t (walk default t p c ss).configuration
  tidy-from = walk-keeps default t p (λ c. Proper default t p c × Tidy t c) step-tidy

pub walks-are-tidy : WalksAreTidy
unfolding WalksAreTidy
walks-are-tidy default t p c ss small law b = (tidy-from default t p (facts default t p small law) ss c (b.permitted.proper, b.permitted.tidy)).1
