-- Every push of a sheet with tickets has one, so the last ticket has at most three digits, and the start of an accepted point has room.
-- Assumes nothing.
use Prim.Native.Nat.{ℕ, zero, suc, ◌+◌, ◌*◌, ◌≤◌, ◌<◌}
use mathlib.Core.List.{List, [], ◌∷◌, ◌++◌}
use mathlib.Core.Bool.{Bool, true, false, and-false, false≢true}
use mathlib.Core.Path.{◌≡◌, sym, ap, ◌∙◌, subst⁻¹}
use mathlib.Core.Logic.{◌≢◌, ⊎_elim, by_cases}
use native.Mathlib.Omega.{arith}
use native.Mathlib.Decide.{dec_lt}
use lib.Dec.{eqb, leb}
use lib.ListN.{length, get_or, length-append, get_or-eq_default}
use borrow.Author.Tests.{eqb-true, leb-true, not-true}
use Rattle.sets.specs.Test.{tally}
use Rattle.item_spec.specs.Reader.{bytes}
use Rattle.item_spec.specs.Write.{only_if, number_text, mask_text, in_turn}
use Rattle.item_spec.proofs.Tests.{by-test, and_left, and_right}
use Rattle.model.specs.declared.Tables.{Tables}
use Rattle.model.specs.declared.Instruction.{Instruction}
use Rattle.model.specs.declared.Program.{Program}
use Rattle.model.specs.declared.Step.{Step}
use Rattle.model.specs.declared.Instance.{Instance}
use Rattle.model.specs.declared.Configuration.{Configuration}
use Rattle.model.specs.Verb.{add_verb, pushb_verb, push_ticket_verb}
use Rattle.model.specs.View.{instance, stamp_in, queue_of}
use Rattle.model.proofs.View.{list_at, length-list}
use Rattle.read_spec.specs.Limits.{has_tickets}
use Rattle.read_spec.specs.Lawful.{verb_lawful, Lawful}
use Rattle.rules_spec.specs.Tickets.{instruction_of, ticket_push, goes_on, pushed_to, last_stamp, Ticketed}
use Rattle.rules_spec.specs.Step.{is_next, step_check, step_to}
use Rattle.rules_spec.specs.Standing.{standing}
use Rattle.rules_spec.specs.Walk.{walk}
use Rattle.rules_spec.proofs.Walks.{walk-keeps, number-facts, after-done}
use Rattle.rules_spec.proofs.Tables.{facts, program-verbs}
use Rattle.rules_spec.proofs.Named.{walk-port-small}
use Rattle.rules_spec.proofs.Numbers.{walk-numbers}
use Rattle.rules_spec.proofs.Proper.{proper-from}
use Rattle.report_spec.specs.Report as report
use Rattle.report_spec.specs.Report.{queue_text, instance_text}
use Rattle.report_spec.proofs.Bound.{report-tight}
use Rattle.report_spec.proofs.Widths.{number-le}
use Rattle.start_spec.specs.Permitted.{MayBegin, TicketsFit}
use Rattle.start_spec.specs.Round.{state_text, head_text, last_text, row_text, row_at, start_text, last_of, lasts_of, ReportsEndInTheState, StartsHaveRoom}
use Rattle.start_spec.proofs.Round.{reports-end-in-the-state}

-- ---- every push has a ticket
ticketed-more : (s : ℕ) (l : List ℕ) → Ticketed l → stamp_in s ≢ 0 → s < 2056 → Ticketed (l ++ (s ∷ []))
unfolding Ticketed
ticketed-more s [] r some small = (some, small, tt)
ticketed-more s (u ∷ l) (a, b, r) some small = (a, b, ticketed-more s l r some small)

module _ (default : ℕ) (t : Tables) (p : Program) (law : Lawful t p) (has : has_tickets p.edition ≡ true) (i : ℕ) where
  line-ticketed : (x : Instruction) (l : List ℕ) → verb_lawful p.edition t.count x ≡ true → Ticketed l → Ticketed (goes_on i x l)
  unfolding goes_on Ticketed
  line-ticketed x l lawful r =
      by-test (eqb x.id i)
      (λ e. rw e
      (by-test (eqb x.verb add_verb) (λ v. rw v tt)
      λ a. by-test (eqb x.verb pushb_verb) (λ v. let q = eqb-true x.verb pushb_verb v in absurd (false≢true (sym (not-true (has_tickets p.edition) (and_left _ _ (rw q at lawful))) ∙ has)))
      λ b. by-test (eqb x.verb push_ticket_verb)
      (λ v.
      let q = eqb-true x.verb push_ticket_verb v in
      let rest = and_right (has_tickets p.edition) _ (rw q at lawful) in
      let small = leb-true x.number 7 (and_left _ _ rest) in
      let ticket = leb-true x.provider 255 (and_right (leb x.number 7) _ rest) in
      rw (a, b, v) (ticketed-more (ticket_push x) l r (λ z. omega arith) (omega arith)))
      (λ v. rw (a, b, v) r)))
      (λ e. rw e r)

  step-ticketed : (c : Configuration) (s : Step) → Ticketed (pushed_to p i c.done) → step_check default t p c s ≡ 0 → Ticketed (pushed_to p i (step_to t p c s).done)
  unfolding pushed_to
  step-ticketed c s r e =
      by-test (is_next s)
      (λ n. rw (after-done t p c s, n) (line-ticketed (instruction_of p c.done) (pushed_to p i c.done) (program-verbs t p law c.done ((number-facts default t p c s e).1 n)) r))
      (λ n. rw (after-done t p c s, n) r)

  pub ticketed-from : (ss : List Step) (c : Configuration) → Ticketed (pushed_to p i c.done) → Ticketed (pushed_to p i (walk default t p c ss).configuration.done)
  ticketed-from = walk-keeps default t p (λ c. Ticketed (pushed_to p i c.done)) step-ticketed

last-small : (l : List ℕ) → Ticketed l → last_stamp l ≤ 256
unfolding last_stamp Ticketed
last-small [] h = omega arith
last-small (s ∷ []) (a, b, h) = omega arith
last-small (s ∷ u ∷ l) (a, b, h) = last-small (u ∷ l) h

-- ---- the last tickets of an accepted point
module _ (p : Program) (d : Configuration) where
  pub last-at : (i : ℕ) → i < 32 → get_or (lasts_of p d) i 0 ≡ last_of p d i
  last-at i h = list_at 32 (last_of p d) 0 i h

  pub last-past : (i : ℕ) → 32 ≤ i → get_or (lasts_of p d) i 0 ≡ 0
  last-past i h = get_or-eq_default (lasts_of p d) 0 {n = i} (rw (length-list 32 (last_of p d)) h)

module _ (default : ℕ) (t : Tables) (p : Program) (c : Configuration) (ss : List Step) (law : Lawful t p) (b : MayBegin default t p c) (fits : has_tickets p.edition ≡ true → TicketsFit p c) where
  abbrev d : Configuration
  d = (walk default t p c ss).configuration

  pub ticketed : has_tickets p.edition ≡ true → (i : ℕ) → Ticketed (pushed_to p i d.done)
  unfolding pushed_to
  ticketed has i = ticketed-from default t p law has i ss c (subst⁻¹ (λ (n : ℕ). Ticketed (pushed_to p i n)) b.permitted.first ((fits has).tickets i))

  last-le : (i : ℕ) → last_of p d i ≤ 256
  unfolding last_of
  last-le i = by-test (has_tickets p.edition)
      (λ has. by-test (instance d i).present (λ here. rw (has, here) (last-small (pushed_to p i d.done) (ticketed has i))) (λ off. rw (off, and-false (has_tickets p.edition)) (omega arith)))
      (λ none. rw none (omega arith))

  pub lasts-small : (i : ℕ) → get_or (lasts_of p d) i 0 ≤ 256
  lasts-small i = by_cases (dec_lt i 32) (λ h. rw (last-at p d i h) (last-le i)) (λ h. rw (last-past p d i (omega arith)) (omega arith))

-- ---- its length
-- a line has at most four bytes more than the report's
last-text-le : (k : ℕ) → k ≤ 256 → length (last_text k) ≤ 3
unfolding last_text
last-text-le zero h = omega arith
last-text-le (suc k) h = number-le 2 k (omega arith)

between : (f x n : List ℕ) → length ((f ++ x) ++ n) ≤ length (f ++ n) + length x
between f x n = omega (arith, length-append (f ++ x) n, length-append f x, length-append f n)

part-le : (b : Bool) (k : ℕ) → k ≤ 256 → length (only_if b (bytes "," ++ last_text k)) ≤ 4
part-le true k h = omega (arith, last-text-le k h)
part-le false k h = omega arith

row_more : (e i : ℕ) (w : Instance) (q : List ℕ) (k : ℕ) → length (row_text e i w q k) ≤ length (instance_text i w q) + length (only_if (has_tickets e) (bytes "," ++ last_text k))
unfolding row_text instance_text
row_more e i w q k =
    between (bytes "instance=" ++ number_text i ++ bytes "," ++ number_text w.kind ++ bytes "," ++ mask_text w.marked ++ bytes ","
    ++ mask_text w.running ++ bytes "," ++ mask_text w.ended ++ bytes "," ++ queue_text q) (only_if (has_tickets e) (bytes "," ++ last_text k)) (bytes "\n")

row-le : (e i : ℕ) (w : Instance) (q : List ℕ) (k : ℕ) → k ≤ 256 → length (row_text e i w q k) ≤ length (instance_text i w q) + 4
row-le e i w q k h = omega (arith, row_more e i w q k, part-le (has_tickets e) k h)

row-at-le : (e : ℕ) (l : List ℕ) (c : Configuration) (i : ℕ) → get_or l i 0 ≤ 256 → length (row_at e l c i) ≤ length (report.instance_at c i) + 4
unfolding row_at report.instance_at
row-at-le e l c i h = by-test (instance c i).present (λ here. rw here (row-le e i (instance c i) (queue_of c i) (get_or l i 0) h)) (λ off. rw off (omega arith))

turn-le : (f g : ℕ → List ℕ) (n : ℕ) → ((i : ℕ) → length (f i) ≤ length (g i) + 4) → length (in_turn f n) ≤ length (in_turn g n) + 4 * n
unfolding in_turn
turn-le f g zero h = omega arith
turn-le f g (suc n) h = omega (arith, turn-le f g n h, h n, length-append (in_turn f n) (f n), length-append (in_turn g n) (g n))

start-le : (d : Configuration) (l : List ℕ) (e : ℕ) → length (state_text d) ≤ 7800 → length (in_turn (row_at e l d) 32) ≤ length (in_turn (report.instance_at d) 32) + 128 → length (start_text e l d) ≤ 8192
unfolding start_text state_text report.instances_text
start-le d l e shown more = omega (arith, shown, more, four-parts (in_turn (row_at e l d) 32), four-parts (in_turn (report.instance_at d) 32))
  where
    x : List ℕ
    x = report.count_text (bytes "instances=") (tally 32 (λ i. (instance d i).present))

    y : List ℕ
    y = report.count_text (bytes "connections=") (standing d).count

    z : List ℕ
    z = report.connections_text d

    four-parts : (n : List ℕ) → length (x ++ n ++ y ++ z) ≡ length x + length n + length y + length z
    four-parts n = omega (arith, length-append (x ++ n ++ y) z, length-append (x ++ n) y, length-append x n)

pub starts-have-room : StartsHaveRoom
unfolding StartsHaveRoom ReportsEndInTheState
starts-have-room default t p c ss small law b fits few =
    let w = walk default t p c ss in
    let d = w.configuration in
    let known = facts default t p small law in
    let now = proper-from default t p known ss c b.permitted.proper in
    let n = walk-numbers default t p ss c in
    let low : w.refused < 100 = ⊎_elim (λ e. omega arith) (λ e. omega arith) n.refused.range in
    let l = report-tight default t p w small law now (omega (arith, n.accepted)) low (walk-port-small default t p known ss c b.permitted.proper) in
    let more = turn-le (row_at p.edition (lasts_of p d) d) (report.instance_at d) 32 (λ i. row-at-le p.edition (lasts_of p d) d i (lasts-small default t p c ss law b fits i)) in
    let shown : length (state_text d) ≤ 7800 = omega (arith, l, ap length (reports-end-in-the-state w), length-append (head_text w) (state_text d)) in
    start-le d (lasts_of p d) p.edition shown more
