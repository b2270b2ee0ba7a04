-- Finished and then queued is pushed.
-- Assumes nothing.
use mathlib.Core.Path.{◌≡◌, refl, sym, ap, ap₂, ◌∙◌}
use mathlib.Core.Bool.{true, false, false≢true}
use mathlib.Core.List.{List, [], ◌∷◌, ◌++◌, append_assoc}
use Prim.Native.Nat.{ℕ, suc, ◌-◌, ◌≤◌, ◌<◌}
use native.Mathlib.Omega.{arith}
use borrow.Author.Tests.{eq-eqb, ne_eqb, lt-ltb}
use Rattle.item_spec.proofs.Tests.{by-test}
use Rattle.model.specs.declared.Tables.{Tables}
use Rattle.model.specs.declared.Program.{Program}
use Rattle.model.specs.declared.Step.{Step}
use Rattle.model.specs.declared.Instance.{Instance}
use Rattle.model.specs.declared.Configuration.{Configuration}
use Rattle.model.specs.View.{instance, slot, queue_head, list_of, queue_of, with_done}
use Rattle.model.proofs.View.{list_same, list-snoc, list-head}
use Rattle.rules_spec.specs.Instance.{fired, ended_by, entered, with_queued}
use Rattle.rules_spec.specs.Action.{Action, add, del, pushb, con, dcon, wait, fire, end, enter, finish, action_check, effect}
use Rattle.rules_spec.specs.Step.{action, step_check, step_to, check_at}
use Rattle.rules_spec.specs.Walk.{one_more, beside_by, walk}
use Rattle.rules_spec.specs.Proper.{Proper}
use Rattle.rules_spec.proofs.Tables.{Facts, facts}
use Rattle.rules_spec.proofs.Local.{shifted, appended, change, touches, changes, owner, owner_of, at-owner, self, own_instance, turn, turned_slot, own_slot, Fits, Room, room-own, instance-own, instance-other, slot-own, slot-other}
use Rattle.rules_spec.proofs.Allowed.{del-facts}
use Rattle.rules_spec.proofs.Walks.{step-on, step-stop, walk-cases, number-facts, after-cases}
use Rattle.rules_spec.proofs.Proper.{Lawfully, room, step-lawfully, step-proper}
use Rattle.demands.specs.Queues.{Story, begun, more_pushed, more_finished, tell, story, QueuesAreKept}

-- ---- a queue of any elements: n of them queued, in the slots s

module _ {A : Type 0} where
  abbrev pub Told : Story A → ℕ → (ℕ → A) → Type 0
  Told h n s = h.finished ++ list_of n s ≡ h.pushed

  -- nothing changes in the slots queued
  pub told_same : (h : Story A) (n : ℕ) (s u : ℕ → A) → ((r : ℕ) → r < n → u r ≡ s r) → Told h n s → Told h n u
  told_same h n s u f told = ap (λ (l : List A). h.finished ++ l) (list_same n u s f) ∙ told

  -- b is appended last
  pub told-pushed : (h : Story A) (n : ℕ) (s u : ℕ → A) (b : A) → ((r : ℕ) → r < n → u r ≡ s r) → u n ≡ b → Told h n s → Told (more_pushed b h) (suc n) u
  told-pushed h n s u b f e told =
      ap (λ (l : List A). h.finished ++ l) (list-snoc n u ∙ ap₂ (λ (l : List A) (x : A). l ++ (x ∷ [])) (list_same n u s f) e)
      ∙ sym (append_assoc h.finished (list_of n s) (b ∷ [])) ∙ ap (λ (l : List A). l ++ (b ∷ [])) told

  -- the head goes and the others move up
  pub told-finished : (h : Story A) (n : ℕ) (s u : ℕ → A) → 0 < n → ((r : ℕ) → suc r < n → u r ≡ s (suc r)) → Told h n s → Told (more_finished (s 0) h) (n - 1) u
  told-finished h n s u some f told =
      append_assoc h.finished (s 0 ∷ []) (list_of (n - 1) u)
      ∙ ap (λ (l : List A). h.finished ++ l) (ap (λ (l : List A). s 0 ∷ l) (list_same (n - 1) u (λ r. s (suc r)) (λ r l. f r (omega arith))) ∙ sym (list-head n s some))
      ∙ told

-- ---- the queue of component i

-- within its eight slots, and as the story tells
abbrev Kept : Story ℕ → ℕ → (ℕ → ℕ) → Type 0
Kept h n s = (n ≤ 8) × Told h n s

kept_same : (h : Story ℕ) (v w : Instance) (s u : ℕ → ℕ) → w ≡ v → ((r : ℕ) → r < 8 → u r ≡ s r) → Kept h v.queued s → Kept h w.queued u
kept_same h v w s u e f (short, told) = rw e (short, told_same h v.queued s u (λ r l. f r (omega arith)) told)

tell-other : (c : Configuration) (i : ℕ) (a : Action) (h : Story ℕ) → changes a i ≡ false → tell c i a h ≡ h
unfolding change touches tell
tell-other c i (add j k) h e = rw e
tell-other c i (pushb j b) h e = rw e
tell-other c i (finish j) h e = rw e
tell-other c i (del j) h e = refl
tell-other c i (con k) h e = refl
tell-other c i (dcon k) h e = refl
tell-other c i (wait j) h e = refl
tell-other c i (fire j q) h e = refl
tell-other c i (end j x) h e = refl
tell-other c i (enter j q) h e = refl

-- the story of the component that an action changes
tell-own : (default : ℕ) (t : Tables) (c : Configuration) (a : Action) (h : Story ℕ) → check_at default t c a ≡ 0 → Fits (turn (change a)) (instance c (owner_of a)).queued
    → changes a (owner_of a) ≡ true → Kept h (instance c (owner_of a)).queued (slot c (owner_of a))
    → Kept (tell c (owner_of a) a h) (own_instance t (instance c (owner_of a)) (queue_head c (owner_of a)) a).queued (own_slot (instance c (owner_of a)).queued (slot c (owner_of a)) a)
unfolding action_check change touches owner self turn turned_slot Fits tell list_of fired ended_by entered with_queued
tell-own default t c (add i k) h e f q told = rw q (omega arith, refl)
tell-own default t c (del i) h e f q (short, told) = (omega arith, rw (del-facts c i e).empty at told)
tell-own default t c (pushb i b) h e f q (short, told) =
    rw q (
      f,
      told-pushed h (instance c i).queued (slot c i) (turned_slot (appended b.slot) (instance c i).queued (slot c i)) b.slot
          (λ r l. rw (ne_eqb r (instance c i).queued (λ e. omega arith))) (rw (eq-eqb (instance c i).queued (instance c i).queued refl)) told,
    )
tell-own default t c (con k) h e f q told = absurd (false≢true q)
tell-own default t c (dcon k) h e f q told = absurd (false≢true q)
tell-own default t c (wait i) h e f q told = absurd (false≢true q)
tell-own default t c (fire i x) h e f q told = told
tell-own default t c (end i x) h e f q told = told
tell-own default t c (enter i x) h e f q told = told
tell-own default t c (finish i) h e f q (short, told) =
    rw q (
      omega arith,
      told-finished h (instance c i).queued (slot c i) (turned_slot shifted (instance c i).queued (slot c i)) f.0
          (λ r l. rw (lt-ltb (suc r) (instance c i).queued l)) told,
    )

module _ (default : ℕ) (t : Tables) (p : Program) (law : Facts default t p) (i : ℕ) where
  -- the story h and the queue of i in c
  abbrev pub KeptAt : Story ℕ → Configuration → Type 0
  KeptAt h c = Kept h (instance c i).queued (slot c i)

  action-told : (c : Configuration) → Proper default t p c → (a : Action) → Lawfully t p a → check_at default t c a ≡ 0 → (h : Story ℕ) → KeptAt h c → KeptAt (tell c i a h) (effect t c a)
  action-told c now a new ok h told = by-test (changes a i) own other
    where
      fits : Room c a
      fits = room default t p law c now a new ok

      own : changes a i ≡ true → KeptAt (tell c i a h) (effect t c a)
      own q =
          let (inside, fit) = room-own c a i q fits in
          kept_same (tell c i a h) (own_instance t (instance c i) (queue_head c i) a) (instance (effect t c a) i) (own_slot (instance c i).queued (slot c i) a) (slot (effect t c a) i)
          (instance-own t c a i q (rw now.instances-length inside)) (slot-own t c a now.queue-length fits i q)
          (at-owner (λ (n : ℕ). Fits (turn (change a)) (instance c n).queued → Kept h (instance c n).queued (slot c n)
          → Kept (tell c n a h) (own_instance t (instance c n) (queue_head c n) a).queued (own_slot (instance c n).queued (slot c n) a)) a i q
          (λ r f k. tell-own default t c a h ok f r k) fit told)

      other : changes a i ≡ false → KeptAt (tell c i a h) (effect t c a)
      other q =
          rw (tell-other c i a h q)
          (kept_same h (instance c i) (instance (effect t c a) i) (slot c i) (slot (effect t c a) i) (instance-other t c a i q) (slot-other t c a now.queue-length fits i q) told)

  step-told : (c : Configuration) (s : Step) (h : Story ℕ) → Proper default t p c → step_check default t p c s ≡ 0 → KeptAt h c → KeptAt (tell c i (action p c s) h) (step_to t p c s)
  unfolding with_done
  step-told c s h now e told =
      let there = action-told c now (action p c s) (step-lawfully default t p law c s e) (number-facts default t p c s e).0 h told in
      after-cases t p (KeptAt (tell c i (action p c s) h)) c s (λ _. there) (λ _. there)

  -- from any proper configuration that the story h fits
  pub told-from : (ss : List Step) (c : Configuration) (h : Story ℕ) → Proper default t p c → KeptAt h c → KeptAt (story default t p i c ss h) (walk default t p c ss).configuration
  unfolding story walk one_more
  told-from [] c h now told = told
  told-from (s ∷ ss) c h now told =
      walk-cases default t p (λ w. KeptAt (story default t p i c (s ∷ ss) h) w.configuration) c s ss
      (λ e. rw (beside_by, step-on default t p c s e, step-on default t p c s e) (told-from ss (step_to t p c s) (tell c i (action p c s) h) (step-proper default t p law c s now e) (step-told c s h now e told)))
      (λ n. rw (beside_by, step-stop default t p c s n, ne_eqb (step_check default t p c s) 0 n) told)

pub queues-are-kept : QueuesAreKept
unfolding QueuesAreKept queue_of list_of
queues-are-kept default t p c ss i small law b =
    (told-from default t p known i ss c (begun p c i) b.permitted.proper (short, refl)).1
  where
    known : Facts default t p
    known = facts default t p small law

    short : (instance c i).queued ≤ 8
    short =
        by-test (instance c i).present
        (λ here. let l = (b.permitted.proper.each i here).short in let d = known.depth in omega arith)
        (λ off. rw (b.permitted.tidy.gone i off) (omega arith))
