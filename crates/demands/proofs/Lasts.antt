-- At each accepted point the report's lines, with the last tickets, are a start, of both kinds of sheets; so is what `start-from` prints.
-- Assumes nothing.
use Prim.Native.Nat.{ℕ, zero, suc, ◌≤◌, ◌<◌}
use mathlib.Core.List.{List, [], ◌∷◌, ◌++◌}
use mathlib.Core.Bool.{true, and-false}
use mathlib.Core.Path.{◌≡◌, refl, sym, ap, ◌∙◌}
use mathlib.Core.Logic.{◌≢◌, by_cases}
use native.Mathlib.Omega.{arith}
use native.Mathlib.Decide.{dec_lt}
use lib.ListN.{length, length-take}
use borrow.Author.Tests.{eq-eqb, lt-ltb, le-leb}
use Rattle.model.specs.declared.Tables.{Tables}
use Rattle.model.specs.declared.Program.{Program}
use Rattle.model.specs.declared.Step.{Step}
use Rattle.model.specs.declared.Configuration.{Configuration}
use Rattle.model.specs.declared.Walked.{Walked}
use Rattle.model.specs.View.{instance, slot, stamp_in, list_of, queue_of, begun_with, with_done}
use Rattle.model.proofs.View.{length-list}
use Rattle.read_spec.specs.Limits.{has_tickets}
use Rattle.read_spec.specs.Lawful.{Lawful}
use Rattle.rules_spec.specs.Tickets.{pushed_to, last_stamp, Rises, Ticketed}
use Rattle.rules_spec.specs.Walk.{walk}
use Rattle.rules_spec.specs.Proper.{Proper}
use Rattle.rules_spec.proofs.Allowed.{present-in}
use Rattle.rules_spec.proofs.Tables.{facts}
use Rattle.start_spec.specs.Row.{rises_to}
use Rattle.start_spec.specs.Paper.{Paper, given}
use Rattle.start_spec.specs.Permitted.{MayBegin, TicketsFit}
use Rattle.start_spec.specs.Round.{last_of, lasts_of, start_of, Lasts, StatesAreReadBack, StartsHaveRoom}
use Rattle.start_spec.proofs.Tidy.{tidy-from}
use Rattle.start_spec.proofs.Round.{states-are-read-back}
use Rattle.start_spec.proofs.Lasts.{last-at, last-past, ticketed, lasts-small, starts-have-room}
use Rattle.judge_spec.specs.Course.{reached, read, served, short_start, outset, default_depth, course}
use Rattle.judge_spec.specs.Next.{whole_course, next_of, next_start}
use Rattle.judge_spec.proofs.Read.{all_read}
use Rattle.demands.specs.Safe.{WalksAreSafe}
use Rattle.demands.specs.Queues.{begun, story, QueuesAreKept}
use Rattle.demands.specs.Tickets.{DoneTells, TicketsRise}
use Rattle.demands.specs.OnTexts.{sheet_tables, sheet_program, begin_of, answer_steps, walk_on, up_to}
use Rattle.demands.specs.Again.{ReportsWithLastsAreStarts, NextStartsAreStarts}
use Rattle.demands.proofs.Safe.{walks-are-safe}
use Rattle.demands.proofs.Queues.{queues-are-kept}
use Rattle.demands.proofs.Tickets.{done-tells, tickets-rise, ticketed-rest}
use Rattle.demands.proofs.Again.{served-is, unserved-done}
use Rattle.demands.proofs.OnTexts.{read_goes, allowed-goes, program-is}

-- ---- the last of a list
last_rest : (k l : List ℕ) → l ≢ [] → last_stamp (k ++ l) ≡ last_stamp l
unfolding last_stamp
last_rest [] l some = refl
last_rest (s ∷ []) [] some = absurd (some refl)
last_rest (s ∷ []) (u ∷ l) some = refl
last_rest (s ∷ u ∷ k) l some = last_rest (u ∷ k) l some

rises-last : (q : List ℕ) → Rises q → rises_to (last_stamp q) q ≡ true
unfolding last_stamp Rises rises_to
rises-last [] r = refl
rises-last (s ∷ []) r = eq-eqb (stamp_in s) (stamp_in s) refl
rises-last (s ∷ u ∷ q) (h, r) = rw (lt-ltb (stamp_in s) (stamp_in u) h) (rises-last (u ∷ q) r)

tail-last : (k q : List ℕ) → Rises q → rises_to (last_stamp (k ++ q)) q ≡ true
unfolding rises_to
tail-last k [] r = refl
tail-last k (s ∷ q) r = ap (λ (n : ℕ). rises_to n (s ∷ q)) (last_rest k (s ∷ q) some) ∙ rises-last (s ∷ q) r
  where
    some : s ∷ q ≢ []
    some e = absurd (let z : suc (length q) ≡ 0 = ap length e in omega arith)

ticketed-at : (n : ℕ) (f : ℕ → ℕ) → Ticketed (list_of n f) → (r : ℕ) → r < n → stamp_in (f r) ≢ 0
unfolding Ticketed list_of
ticketed-at zero f h r l = absurd (omega arith)
ticketed-at (suc n) f (a, b, h) zero l = a
ticketed-at (suc n) f (a, b, h) (suc r) l = ticketed-at n (λ r. f (suc r)) h r (omega arith)

module _ (t : Tables) (p : Program) (c : Configuration) (ss : List Step) (law : Lawful t p) (b : MayBegin default_depth t p c) (fits : has_tickets p.edition ≡ true → TicketsFit p c) where
  abbrev d : Configuration
  d = (walk default_depth t p c ss).configuration

  made : has_tickets p.edition ≡ true → (i : ℕ) → pushed_to p i d.done ≡ (story default_depth t p i c ss (begun p c i)).finished ++ queue_of d i
  unfolding DoneTells QueuesAreKept
  made has i = sym (done-tells default_depth t p c ss i b.permitted.first (fits has)) ∙ sym (queues-are-kept default_depth t p c ss i (omega arith) law b)

  here_in : Proper default_depth t p d → (i : ℕ) → (instance d i).present ≡ true → i < 32
  here_in now i here = rw (← now.instances-length) (present-in d i here)

  lasts : Proper default_depth t p d → Lasts p d (lasts_of p d)
  unfolding last_of queue_of TicketsRise
  lasts now =
      record {
        long = length-list 32 (last_of p d);
        small = lasts-small default_depth t p c ss law b fits;
        gone = λ i off. by_cases (dec_lt i 32) (λ h. last-at p d i h ∙ rw (off, and-false (has_tickets p.edition))) (λ h. last-past p d i (omega arith));
        plain = λ none i. by_cases (dec_lt i 32) (λ h. last-at p d i h ∙ rw none) (λ h. last-past p d i (omega arith));
        stamps = λ has i r here l. ticketed-at (instance d i).queued (slot d i) (ticketed-rest (story default_depth t p i c ss (begun p c i)).finished (queue_of d i) (rw (made has i) at (ticketed default_depth t p c ss law b fits has i))) r l;
        tail = λ has i here. ap (λ (n : ℕ). rises_to n (queue_of d i)) (last-at p d i (here_in now i here) ∙ told has i here)
            ∙ tail-last (story default_depth t p i c ss (begun p c i)).finished (queue_of d i) (tickets-rise default_depth t p c ss i (omega arith) law b (fits has) has).1;
      }
    where
      told : has_tickets p.edition ≡ true → (i : ℕ) → (instance d i).present ≡ true → last_of p d i ≡ last_stamp ((story default_depth t p i c ss (begun p c i)).finished ++ queue_of d i)
      told has i here = rw (has, here) (ap last_stamp (made has i))

  pub start-again : outset default_depth t p (given (start_of p d)) ≡ reached (begun_with p d.queue (lasts_of p d), with_done d 0)
  unfolding outset read served with_done StatesAreReadBack WalksAreSafe
  start-again =
      let (now, tidy) = tidy-from default_depth t p (facts default_depth t p (omega arith) law) ss c (b.permitted.proper, b.permitted.tidy) in
      rw (
        states-are-read-back default_depth t p d (lasts_of p d) (omega arith) law now tidy (lasts now),
        read,
        unserved-done t d (served-is t _ (walks-are-safe default_depth t p c ss (omega arith) law b)),
        served,
      )

pub reports-with-lasts-are-starts : ReportsWithLastsAreStarts
unfolding ReportsWithLastsAreStarts StartsHaveRoom
reports-with-lasts-are-starts s a n r =
    let g = read_goes s a r in
    let few : length (up_to n a) ≤ 1024 = omega (arith, g.said.few, length-take n (answer_steps a)) in (
      starts-have-room default_depth (sheet_tables s) (sheet_program s) (begin_of s) (up_to n a) (omega arith) g.lawful g.begins-well g.fits few,
      start-again (sheet_tables s) (sheet_program s) (begin_of s) (up_to n a) g.lawful g.begins-well g.fits,
    )

-- ---- what `start-from` prints
next-is : (s : Paper) (a : List ℕ) (w : Walked) → course s a ≡ reached w → w.refused ≡ 0 → next_start s a ≡ start_of (sheet_program s) w.configuration
unfolding next_start whole_course next_of
next-is s a w e ok =
    let b = all_read s a w e in
    rw (next_start, whole_course, b.whole, ← b.walked, next_of, eq-eqb w.refused 0 ok, program-is s b.sheet-is b.begun) (ap (λ (v : Walked). start_of b.program v.configuration) (sym b.walked))

pub next-starts-are-starts : NextStartsAreStarts
unfolding NextStartsAreStarts short_start StartsHaveRoom
next-starts-are-starts s a q =
    let (g, ok) = allowed-goes s a q in
    let e = next-is s a (walk_on s (answer_steps a)) g.is ok in
    let room = starts-have-room default_depth (sheet_tables s) (sheet_program s) (begin_of s) (answer_steps a) (omega arith) g.lawful g.begins-well g.fits (omega (arith, g.said.few)) in (
      rw (e, short_start, le-leb (length (start_of (sheet_program s) (walk_on s (answer_steps a)).configuration)) 8192 room),
      ap (λ (x : List ℕ). outset default_depth (sheet_tables s) (sheet_program s) (given x)) e
          ∙ start-again (sheet_tables s) (sheet_program s) (begin_of s) (answer_steps a) g.lawful g.begins-well g.fits,
    )
