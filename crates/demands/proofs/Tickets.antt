-- What the instructions done tell of the pushes to a component, that tickets rise, and the numbers of a wait for one push.
-- Assumes nothing.
use mathlib.Core.Path.{◌≡◌, refl, sym, ap, ap₂, ◌∙◌, subst⁻¹}
use mathlib.Core.Bool.{Bool, true, false, not, ◌||◌, or-true, or-false, false≢true}
use mathlib.Core.List.{List, [], ◌∷◌, ◌++◌, append-nil}
use mathlib.Core.Logic.{◌≢◌}
use lib.ListN.{length}
use Prim.Native.Nat.{ℕ, zero, suc, ◌≤◌}
use native.Mathlib.Omega.{arith}
use lib.Dec.{leb, eqb, eqb-suc-zero}
use borrow.Author.Tests.{eqb-true, ne_eqb, leb-true, leb-false, lt-leb, not-true}
use Rattle.sets.specs.Test.{any_below}
use Rattle.item_spec.proofs.Tests.{by-test, and_left, and_right}
use Rattle.model.specs.declared.Tables.{Tables}
use Rattle.model.specs.declared.Instruction.{Instruction}
use Rattle.model.specs.declared.Program.{Program}
use Rattle.model.specs.declared.Step.{Step}
use Rattle.model.specs.declared.Configuration.{Configuration}
use Rattle.model.specs.Empty.{no_step}
use Rattle.model.specs.Verb.{add_verb, del_verb, pushb_verb, con_verb, dcon_verb, push_ticket_verb, wait_ticket_verb}
use Rattle.model.specs.View.{instance, slot, behavior_in, pair_of, stamp_in, list_of, queue_of}
use Rattle.model.proofs.View.{list-snoc}
use Rattle.read_spec.specs.Limits.{has_tickets}
use Rattle.read_spec.specs.Lawful.{verb_lawful, Lawful}
use Rattle.rules_spec.specs.Refusal.{◌⇒◌∣◌}
use Rattle.rules_spec.specs.Tickets.{instruction_of, ticket_push, goes_on, begun_to, pushed_to, not_above, has_stamp, Rises, Ticketed}
use Rattle.rules_spec.specs.PushB.{pushb_check}
use Rattle.rules_spec.specs.Wait.{is_queued, wait_check}
use Rattle.rules_spec.specs.Action.{ticketed, instruction_action, move_action, action_check}
use Rattle.rules_spec.specs.Step.{is_next, action_at, action, step_check_with, check_at, step_check, step_to}
use Rattle.rules_spec.specs.Walk.{one_more, beside_by, walk}
use Rattle.rules_spec.proofs.Actions.{move-cases}
use Rattle.rules_spec.proofs.Walks.{step-on, step-stop, walk-cases, walk-keeps, number-facts, after-done}
use Rattle.rules_spec.proofs.Allowed.{pushb-facts}
use Rattle.rules_spec.proofs.Tables.{program-verbs}
use Rattle.rules_spec.proofs.Tickets.{has_more}
use Rattle.start_spec.specs.Permitted.{MayBegin, TicketsFit}
use Rattle.demands.specs.Queues.{Story, begun, tell, story, QueuesAreKept}
use Rattle.demands.proofs.Queues.{queues-are-kept}
use Rattle.demands.specs.Tickets.{DoneTells, TicketsRise, WaitsExactly, PushesExactly}

-- ---- one step of the story
tell-move : (c : Configuration) (i : ℕ) (s : Step) (h : Story ℕ) → (tell c i (move_action s) h).pushed ≡ h.pushed
unfolding tell
tell-move c i s h =
    move-cases (λ a. (tell c i a h).pushed ≡ h.pushed) s refl refl refl (by-test (eqb s.id i) (λ e. rw e) (λ e. rw e))

tell-line : (c : Configuration) (i : ℕ) (l : List ℕ) (x : Instruction) (h : Story ℕ) → (tell c i (instruction_action l x) h).pushed ≡ goes_on i x h.pushed
unfolding tell instruction_action goes_on
tell-line c i l x h =
    by-test (eqb x.verb add_verb) (λ v. let q = eqb-true x.verb add_verb v in rw q (mine (λ e. rw e) (λ e. rw e)))
    λ a. by-test (eqb x.verb del_verb) (λ v. let q = eqb-true x.verb del_verb v in rw q (mine (λ e. rw e) (λ e. rw e)))
    λ b. by-test (eqb x.verb pushb_verb) (λ v. let q = eqb-true x.verb pushb_verb v in rw q (mine (λ e. rw e) (λ e. rw e)))
    λ d. by-test (eqb x.verb con_verb) (λ v. let q = eqb-true x.verb con_verb v in rw q (mine (λ e. rw e) (λ e. rw e)))
    λ f. by-test (eqb x.verb dcon_verb) (λ v. let q = eqb-true x.verb dcon_verb v in rw q (mine (λ e. rw e) (λ e. rw e)))
    λ g. by-test (eqb x.verb push_ticket_verb) (λ v. let q = eqb-true x.verb push_ticket_verb v in rw q (mine (λ e. rw e) (λ e. rw e)))
    λ j. by-test (eqb x.verb wait_ticket_verb) (λ w. rw (a, b, d, f, g, j, w) (mine (λ e. rw e) (λ e. rw e))) (λ w. rw (a, b, d, f, g, j, w) (mine (λ e. rw e) (λ e. rw e)))
  where
    mine : {W : Type 0} → (eqb x.id i ≡ true → W) → (eqb x.id i ≡ false → W) → W
    mine = by-test (eqb x.id i)

-- ---- a walk
module _ (default : ℕ) (t : Tables) (p : Program) (i : ℕ) where
  step-tells : (c : Configuration) (s : Step) (h : Story ℕ) → h.pushed ≡ pushed_to p i c.done → (tell c i (action p c s) h).pushed ≡ pushed_to p i (step_to t p c s).done
  unfolding action action_at pushed_to
  step-tells c s h told =
      by-test (is_next s)
      (λ e. rw (e, after-done t p c s, e) (tell-line c i _ (instruction_of p c.done) h ∙ ap (goes_on i (instruction_of p c.done)) told))
      (λ e. rw (e, after-done t p c s, e) (tell-move c i s h ∙ told))

  -- from where the story h fits
  pub done-tells-from : (ss : List Step) (c : Configuration) (h : Story ℕ) → h.pushed ≡ pushed_to p i c.done
      → (story default t p i c ss h).pushed ≡ pushed_to p i (walk default t p c ss).configuration.done
  unfolding story walk one_more
  done-tells-from [] c h told = told
  done-tells-from (s ∷ ss) c h told =
      walk-cases default t p (λ w. (story default t p i c (s ∷ ss) h).pushed ≡ pushed_to p i w.configuration.done) c s ss
      (λ e. rw (beside_by, step-on default t p c s e, step-on default t p c s e) (done-tells-from ss (step_to t p c s) (tell c i (action p c s) h) (step-tells c s h told)))
      (λ n. rw (beside_by, step-stop default t p c s n, ne_eqb (step_check default t p c s) 0 n) told)

-- what fits is what the story begins with
begun-told : (p : Program) (c : Configuration) (i : ℕ) → TicketsFit p c → (begun p c i).pushed ≡ begun_to p i
begun-told p c i fits = go (queue_of c i) (fits.queued i)
  where
    go : (q : List ℕ) → (q ≢ [] → begun_to p i ≡ q) → (elim q as (λ _. List ℕ) [ [] ↦ begun_to p i | s ∷ k ↦ [] ]) ++ q ≡ begun_to p i
    go [] h = append-nil (begun_to p i)
    go (s ∷ q) h = sym (h some)
      where
        some : s ∷ q ≢ []
        some e = absurd (let z : suc (length q) ≡ 0 = ap length e in omega arith)

pub done-tells : DoneTells
unfolding DoneTells pushed_to
done-tells default t p c ss i first fits = done-tells-from default t p i ss c (begun p c i) (begun-told p c i fits ∙ ap (pushed_to p i) (sym first))

-- ---- tickets rise
rises-more : (s : ℕ) (l : List ℕ) → Rises l → not_above (stamp_in s) l ≡ false → Rises (l ++ (s ∷ []))
unfolding Rises not_above
rises-more s [] r e = tt
rises-more s (u ∷ []) r e = (leb-false (stamp_in s) (stamp_in u) e, tt)
rises-more s (u ∷ v ∷ l) (h, r) e = (h, rises-more s (v ∷ l) r e)

rises-rest : (k l : List ℕ) → Rises (k ++ l) → Rises l
unfolding Rises
rises-rest [] l r = r
rises-rest (s ∷ []) [] r = tt
rises-rest (s ∷ []) (u ∷ l) (h, r) = r
rises-rest (s ∷ u ∷ k) l (h, r) = rises-rest (u ∷ k) l r

module _ (default : ℕ) (t : Tables) (p : Program) (law : Lawful t p) (has : has_tickets p.edition ≡ true) (i : ℕ) where
  -- an instruction done to c is lawful, and pushes what is above the last
  line-rises : (c : Configuration) (x : Instruction) (l : List ℕ) → verb_lawful p.edition t.count x ≡ true
      → check_at default t c (instruction_action l x) ≡ 0 → Rises l → Rises (goes_on i x l)
  unfolding goes_on instruction_action action_check Rises
  line-rises c x l lawful ok r =
      by-test (eqb x.id i)
      (λ e. rw e
      (by-test (eqb x.verb add_verb) (λ v. rw v tt)
      λ a. by-test (eqb x.verb pushb_verb) (λ v. let q = eqb-true x.verb pushb_verb v in absurd (false≢true (sym (not-true (has_tickets p.edition) (and_left _ _ (rw q at lawful))) ∙ has)))
      λ b. by-test (eqb x.verb push_ticket_verb)
      (λ v.
      let q = eqb-true x.verb push_ticket_verb v in
      let small = leb-true x.number 7 (and_left _ _ (and_right (has_tickets p.edition) _ (rw q at lawful))) in
      let above : not_above (suc x.provider) l ≡ false = (pushb-facts default t c x.id (ticketed l x) (rw q at ok)).above in
      let is : stamp_in (ticket_push x) ≡ suc x.provider = omega arith in
      rw (a, b, v) (rises-more (ticket_push x) l r (ap (λ (n : ℕ). not_above n l) is ∙ above)))
      (λ v. rw (a, b, v) r)))
      (λ e. rw e r)

  step-rises : (c : Configuration) (s : Step) → Rises (pushed_to p i c.done) → step_check default t p c s ≡ 0 → Rises (pushed_to p i (step_to t p c s).done)
  unfolding pushed_to action action_at goes_on
  step-rises c s r e =
      by-test (is_next s)
      (λ n. rw (after-done t p c s, n) (mine n))
      (λ n. rw (after-done t p c s, n) r)
    where
      mine : is_next s ≡ true → Rises (goes_on i (instruction_of p c.done) (pushed_to p i c.done))
      mine n =
          let (ok, left) = number-facts default t p c s e in
          by-test (eqb (instruction_of p c.done).id i)
          (λ q. line-rises c (instruction_of p c.done) (pushed_to p i c.done) (program-verbs t p law c.done (left n))
          (rw (n, eqb-true (instruction_of p c.done).id i q) at ok) r)
          (λ q. rw q r)

  pub rises-from : (ss : List Step) (c : Configuration) → Rises (pushed_to p i c.done) → Rises (pushed_to p i (walk default t p c ss).configuration.done)
  rises-from = walk-keeps default t p (λ c. Rises (pushed_to p i c.done)) step-rises

pub ticketed-rest : (k l : List ℕ) → Ticketed (k ++ l) → Ticketed l
unfolding Ticketed
ticketed-rest [] l r = r
ticketed-rest (s ∷ k) l (a, b, r) = ticketed-rest k l r

pub tickets-rise : TicketsRise
unfolding TicketsRise QueuesAreKept DoneTells pushed_to
tickets-rise default t p c ss i small law b fits has =
    let all : Rises (story default t p i c ss (begun p c i)).pushed = subst⁻¹ Rises (done-tells default t p c ss i b.permitted.first fits) (rises-from default t p law has i ss c first) in
    (all, rises-rest (story default t p i c ss (begun p c i)).finished (queue_of (walk default t p c ss).configuration i) (subst⁻¹ Rises (queues-are-kept default t p c ss i small law b) all))
  where
    first : Rises (pushed_to p i c.done)
    first = subst⁻¹ (λ (n : ℕ). Rises (pushed_to p i n)) b.permitted.first (fits.rises i)

-- ---- a wait for one push
queued-is : (n m : ℕ) (f : ℕ → ℕ) → any_below m (λ r. eqb (stamp_in (f r)) n) ≡ has_stamp n (list_of m f)
unfolding any_below has_stamp list_of
queued-is n zero f = refl
queued-is n (suc m) f =
    ap₂ ◌||◌ (queued-is n m f) (sym (or-false (eqb (stamp_in (f m)) n)))
    ∙ sym (ap (has_stamp n) (list-snoc m f) ∙ has_more n (list_of m f) (f m ∷ []))

-- at a point reached, what was pushed since the `add` is finished or queued; so what is queued was pushed
module _ (default : ℕ) (t : Tables) (p : Program) (b : Configuration) (ss : List Step) (i n : ℕ) (small : default ≤ 8) (law : Lawful t p) (may : MayBegin default t p b)
    (fits : TicketsFit p b) where
  pushed-is : has_stamp n (pushed_to p i (walk default t p b ss).configuration.done)
      ≡ (has_stamp n (story default t p i b ss (begun p b i)).finished || has_stamp n (queue_of (walk default t p b ss).configuration i))
  unfolding DoneTells QueuesAreKept
  pushed-is =
      ap (has_stamp n) (sym (done-tells default t p b ss i may.permitted.first fits) ∙ sym (queues-are-kept default t p b ss i small law may))
      ∙ has_more n (story default t p i b ss (begun p b i)).finished (queue_of (walk default t p b ss).configuration i)

  pub queued-was-pushed : is_queued (walk default t p b ss).configuration i n ≡ true → has_stamp n (pushed_to p i (walk default t p b ss).configuration.done) ≡ true
  unfolding queue_of
  queued-was-pushed e =
      let c = (walk default t p b ss).configuration in
      let done = has_stamp n (story default t p i b ss (begun p b i)).finished in
      pushed-is ∙ ap (◌||◌ done) (sym (queued-is n (instance c i).queued (slot c i)) ∙ e) ∙ or-true done

pub waits-exactly : WaitsExactly
unfolding WaitsExactly queue_of step_check_with action action_at instruction_action action_check wait_check
waits-exactly default t p b ss i k small law may fits left is = number
  where
    c : Configuration
    c = (walk default t p b ss).configuration

    h : Story ℕ
    h = story default t p i b ss (begun p b i)

    made : has_stamp (suc k) (pushed_to p i c.done) ≡ (has_stamp (suc k) h.finished || has_stamp (suc k) (queue_of c i))
    made = pushed-is default t p b ss i (suc k) small law may fits

    queued : is_queued c i (suc k) ≡ has_stamp (suc k) (queue_of c i)
    queued = queued-is (suc k) (instance c i).queued (slot c i)

    settled : (a b d : Bool) → (not a ⇒ 11 ∣ b ⇒ 23 ∣ not (d || b) ⇒ 24 ∣ 0) ≡ (not a ⇒ 11 ∣ b ⇒ 23 ∣ d ⇒ 0 ∣ 24)
    settled true true d = refl
    settled true false true = refl
    settled true false false = refl
    settled false b d = refl

    number : step_check default t p c no_step ≡ (not (instance c i).present ⇒ 11 ∣ has_stamp (suc k) (queue_of c i) ⇒ 23 ∣ has_stamp (suc k) h.finished ⇒ 0 ∣ 24)
    number = rw (lt-leb p.count c.done left, is, eqb-suc-zero k, queued, made) (settled (instance c i).present (has_stamp (suc k) (queue_of c i)) (has_stamp (suc k) h.finished))

-- ---- a push with a ticket
pub pushes-exactly : PushesExactly
unfolding PushesExactly DoneTells step_check_with action action_at instruction_action action_check pushb_check
pushes-exactly default t p b ss i k ticket law may fits left is =
    rw (lt-leb p.count c.done left, is, behavior, sym (done-tells default t p b ss i may.permitted.first fits)) refl
  where
    c : Configuration
    c = (walk default t p b ss).configuration

    lawful : verb_lawful p.edition t.count (instruction_of p c.done) ≡ true
    lawful = program-verbs t p law c.done left

    small : k ≤ 7
    small = leb-true k 7 (and_left (leb k 7) _ (and_right (has_tickets p.edition) _ (rw is at lawful)))

    behavior : behavior_in (pair_of k (suc ticket)) ≡ k
    behavior = omega (arith, small)
