-- Two allowed answers with equal projections have one outcome.
-- Assumes nothing.
use mathlib.Core.Path.{◌≡◌, refl, sym, ap, ap₂, ◌∙◌}
use mathlib.Core.Bool.{Bool, true, false, cond}
use mathlib.Core.List.{List, [], ◌∷◌}
use Prim.Native.Nat.{ℕ, zero, suc, ◌+◌, ◌<◌}
use native.Mathlib.Nat.{zero-add}
use native.Mathlib.Numerals.{one-add}
use Rattle.item_spec.proofs.Tests.{by-test}
use Rattle.model.specs.declared.Tables.{Tables}
use Rattle.model.specs.declared.Program.{Program}
use Rattle.model.specs.declared.Step.{Step}
use Rattle.model.specs.declared.Configuration.{Configuration}
use Rattle.model.specs.declared.Walked.{Walked}
use Rattle.model.specs.View.{with_done}
use Rattle.rules_spec.specs.Action.{Action, add, del, pushb, con, dcon, wait, fire, end, enter, finish, move_action}
use Rattle.rules_spec.specs.Step.{is_next, action_at, action, step_check, step_to}
use Rattle.rules_spec.specs.Walk.{one_more, walk}
use Rattle.rules_spec.specs.Proper.{Proper}
use Rattle.rules_spec.proofs.Tables.{Facts, facts}
use Rattle.rules_spec.proofs.Local.{Wires, wires, rewired, wiring_of, change, touches, changes, part-wires, rest-after}
use Rattle.rules_spec.proofs.Walks.{walk-unnamed, walk-on, allowed-head, allowed-tail, number-facts, after-cases, after-done}
use Rattle.rules_spec.proofs.Proper.{step-lawfully, step-proper, proper-from}
use Rattle.demands.specs.Agree.{names, deeds, naming, ReportsAgree}
use Rattle.demands.proofs.Parts.{Part, part, acted, part-after, whole}
use Rattle.demands.proofs.Moves.{is_move, line-no-move, move-is-move, move-changes}
use Rattle.demands.proofs.Traces.{tally, same-tally}

-- ---- as many steps, and as many of them `next`

abbrev each : Step → ℕ
each s = 1

abbrev if_next : Step → ℕ
if_next s = cond (is_next s) 1 0

module _ (p : Program) (n : ℕ) (ss us : List Step) (same : (i : ℕ) → naming i (deeds p n ss) ≡ naming i (deeds p n us)) where
  pub same_count : tally each ss ≡ tally each us
  same_count = same-tally p (λ a. 1) each (λ n s e. refl) (λ s e. refl) n ss us same

  same-nexts : tally if_next ss ≡ tally if_next us
  same-nexts = same-tally p (λ a. cond (is_move a) 0 1) if_next (λ n s e. rw (line-no-move p n, e)) (λ s e. rw (move-is-move s, e)) n ss us same

accepted-walk : (default : ℕ) (t : Tables) (p : Program) (ss : List Step) (c : Configuration) → (walk default t p c ss).refused ≡ 0
    → (walk default t p c ss).accepted ≡ tally each ss
unfolding walk one_more tally
accepted-walk default t p [] c ok = refl
accepted-walk default t p (s ∷ ss) c ok =
    ap (λ (w : Walked). w.accepted) (walk-on default t p c s ss (allowed-head default t p c s ss ok))
    ∙ ap suc (accepted-walk default t p ss (step_to t p c s) (allowed-tail default t p c s ss ok)) ∙ sym (one-add (tally each ss))

-- ---- connections and the instructions done: the program's next instructions, as many as there are `next`

record Course : Type 0 where
  joined : Wires
  done : ℕ

abbrev course : Configuration → Course
course c = record { joined = wires c; done = c.done }

-- after the next instruction
abbrev onward : Program → Course → Course
onward p x = record { joined = rewired (wiring_of (change (action_at p x.done))) x.joined; done = suc x.done }

times : ℕ → (Course → Course) → Course → Course
times zero f x = x
times (suc n) f x = times n f (f x)

module _ (default : ℕ) (t : Tables) (p : Program) where
  course-step : (c : Configuration) (s : Step) → course (step_to t p c s) ≡ cond (is_next s) (onward p (course c)) (course c)
  unfolding action with_done
  course-step c s =
      after-cases t p (λ d. course d ≡ cond (is_next s) (onward p (course c)) (course c)) c s
      (λ e. rw e (ap (λ (x : Wires). record { joined = x; done = suc c.done }) (rest-after t c (action_at p c.done)).connections))
      (λ e. rw e (ap₂ (λ (x : Wires) (n : ℕ). record { joined = x; done = n }) (part-wires t c (move_action s) s.id (move-changes s)) (rest-after t c (move_action s)).done))

  course-walk : (ss : List Step) (c : Configuration) → (walk default t p c ss).refused ≡ 0 → course (walk default t p c ss).configuration ≡ times (tally if_next ss) (onward p) (course c)
  unfolding walk one_more tally times
  course-walk [] c ok = refl
  course-walk (s ∷ ss) c ok =
      ap (λ (w : Walked). course w.configuration) (walk-on default t p c s ss (allowed-head default t p c s ss ok))
      ∙ course-walk ss (step_to t p c s) (allowed-tail default t p c s ss ok)
      ∙ ap (times (tally if_next ss) (onward p)) (course-step c s)
      ∙ go (is_next s)
    where
      go : (b : Bool) → times (tally if_next ss) (onward p) (cond b (onward p (course c)) (course c)) ≡ times (cond b 1 0 + tally if_next ss) (onward p) (course c)
      go true = rw (one-add (tally if_next ss)) refl
      go false = rw (zero-add (tally if_next ss)) refl

same-walked : (w u : Walked) → w.accepted ≡ u.accepted → w.refused ≡ u.refused → w.port ≡ u.port → w.configuration ≡ u.configuration
    → ◌≡◌ {A = Walked} (record { accepted = w.accepted; refused = w.refused; port = w.port; configuration = w.configuration }) u
same-walked w u a b k c = rw (a, b, k, c)

-- ---- a component's part after a walk is told by its projection

acts : Tables → ℕ → Part → List Action → Part
acts t i x [] = x
acts t i x (a ∷ rest) = acts t i (acted t i a x) rest

-- what changes a component names it
unnamed-kept : (a : Action) (i : ℕ) → names a i ≡ false → changes a i ≡ false
unfolding names change touches
unnamed-kept (add m k) i e = e
unnamed-kept (del m) i e = e
unnamed-kept (pushb m b) i e = e
unnamed-kept (con k) i e = refl
unnamed-kept (dcon k) i e = refl
unnamed-kept (wait m) i e = refl
unnamed-kept (fire m p) i e = e
unnamed-kept (end m x) i e = e
unnamed-kept (enter m p) i e = e
unnamed-kept (finish m) i e = e

acts-naming : (t : Tables) (i : ℕ) (ds : List Action) (x : Part) → acts t i x ds ≡ acts t i x (naming i ds)
unfolding acts naming acted
acts-naming t i [] x = refl
acts-naming t i (a ∷ rest) x =
    acts-naming t i rest (acted t i a x)
    ∙ by-test (names a i) (λ e. rw (e, naming)) (λ e. rw (unnamed-kept a i e, e, naming))

module _ (default : ℕ) (t : Tables) (p : Program) (law : Facts default t p) where
  part_step : (c : Configuration) (s : Step) → Proper default t p c → step_check default t p c s ≡ 0 → (i : ℕ) → i < 32 → part (step_to t p c s) i ≡ acted t i (action p c s) (part c i)
  unfolding with_done
  part_step c s now e i h =
      let there = part-after default t p law c now (action p c s) (step-lawfully default t p law c s e) (number-facts default t p c s e).0 i h in
      after-cases t p (λ d. part d i ≡ acted t i (action p c s) (part c i)) c s (λ _. there) (λ _. there)

  -- the deeds of a step and of the rest
  deeds-step : (c : Configuration) (s : Step) (ss : List Step) → deeds p c.done (s ∷ ss) ≡ action p c s ∷ deeds p (step_to t p c s).done ss
  unfolding deeds action
  deeds-step c s ss =
      by-test (is_next s) (λ e. rw (after-done t p c s, e, deeds)) (λ e. rw (after-done t p c s, e, deeds))

  part-walk : (ss : List Step) (c : Configuration) → Proper default t p c → (walk default t p c ss).refused ≡ 0 → (i : ℕ) → i < 32
      → part (walk default t p c ss).configuration i ≡ acts t i (part c i) (deeds p c.done ss)
  unfolding walk one_more acts deeds
  part-walk [] c now ok i h = refl
  part-walk (s ∷ ss) c now ok i h =
      let e = allowed-head default t p c s ss ok in
      ap (λ (w : Walked). part w.configuration i) (walk-on default t p c s ss e)
      ∙ part-walk ss (step_to t p c s) (step-proper default t p law c s now e) (allowed-tail default t p c s ss ok) i h
      ∙ ap (λ (x : Part). acts t i x (deeds p (step_to t p c s).done ss)) (part_step c s now e i h)
      ∙ sym (ap (acts t i (part c i)) (deeds-step c s ss))

  -- ---- the outcome, from any proper configuration
  pub agree-from : (c : Configuration) (ss us : List Step) → Proper default t p c → (walk default t p c ss).refused ≡ 0 → (walk default t p c us).refused ≡ 0
      → ((i : ℕ) → naming i (deeds p c.done ss) ≡ naming i (deeds p c.done us)) → walk default t p c ss ≡ walk default t p c us
  agree-from c ss us now a b same = same-walked (walk default t p c ss) (walk default t p c us) accepted (a ∙ sym b)
      (walk-unnamed default t p ss c a ∙ sym (walk-unnamed default t p us c b)) configuration
    where
      accepted : (walk default t p c ss).accepted ≡ (walk default t p c us).accepted
      accepted = accepted-walk default t p ss c a ∙ same_count p c.done ss us same ∙ sym (accepted-walk default t p us c b)

      parts : (i : ℕ) → i < 32 → part (walk default t p c ss).configuration i ≡ part (walk default t p c us).configuration i
      parts i h =
          part-walk ss c now a i h ∙ acts-naming t i (deeds p c.done ss) (part c i) ∙ ap (acts t i (part c i)) (same i)
          ∙ sym (part-walk us c now b i h ∙ acts-naming t i (deeds p c.done us) (part c i))

      rest : course (walk default t p c ss).configuration ≡ course (walk default t p c us).configuration
      rest = course-walk default t p ss c a ∙ ap (λ (n : ℕ). times n (onward p) (course c)) (same-nexts p c.done ss us same) ∙ sym (course-walk default t p us c b)

      configuration : (walk default t p c ss).configuration ≡ (walk default t p c us).configuration
      configuration =
          whole default t p (walk default t p c ss).configuration (walk default t p c us).configuration (proper-from default t p law ss c now) (proper-from default t p law us c now) parts
          (ap (λ (x : Course). x.joined) rest) (ap (λ (x : Course). x.done) rest)

pub reports-agree : ReportsAgree
unfolding ReportsAgree
reports-agree default t p c ss us small law g a b same =
    agree-from default t p (facts default t p small law) c ss us g.permitted.proper a b
    (λ i. rw g.permitted.first (same i))
