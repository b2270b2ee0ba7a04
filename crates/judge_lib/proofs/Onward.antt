-- The last tickets, and what the course says of the start where an answer ends: none after a fault or a refused step, and else one that has room.
-- Assumes nothing.
use Prim.Native.Nat.{ℕ, ◌+◌, ◌≤◌, ◌<◌, zero-le}
use mathlib.Core.List.{List, [], ◌∷◌, ◌++◌}
use mathlib.Core.Path.{◌≡◌, refl, sym, ap, ◌∙◌}
use mathlib.Core.Logic.{◌≢◌}
use native.Mathlib.Omega.{arith}
use native.Mathlib.Numerals.{add-one}
use lib.ListN.{length-set, length, take, set}
use lib.Seq.{take_all, take-suc-set}
use borrow.Author.Tests.{le-leb, eq-eqb, ne_eqb}
use Rattle.model.specs.declared.Text.TheVariants as text
use Rattle.model.specs.declared.Walked.{Walked}
use Rattle.model.specs.View.{list_of}
use Rattle.model.proofs.View.{list-snoc}
use Rattle.report_spec.specs.Report.{report}
use Rattle.write_items.specs.Written.{Written}
use Rattle.write_items.proofs.Laws.{fits_all}
use Rattle.words.specs.Words.{program_from, state_in}
use Rattle.step_walk.specs.declared.Passed.{Passed}
use Rattle.step_walk.specs.Reached.{walked}
use Rattle.start_spec.specs.Paper.{Paper}
use Rattle.start_spec.specs.Round.{start_of}
use Rattle.judge_spec.specs.Course.{faulty, reached, course}
use Rattle.judge_spec.specs.Judged.{Judgement, after_fault, after_walk, in_room, judged, over}
use Rattle.judge_spec.specs.Next.{whole_course, next_of, next_start, NextStartsFit}
use Rattle.judge_spec.specs.Room.{ReportsFit}
use Rattle.judge_spec.proofs.Room.{reports-fit}
use Rattle.judge_spec.proofs.Next.{course-from, next-starts-fit}
use Rattle.judge_lib.specs.declared.pairs.TextFault.{TextFault}
use Rattle.judge_lib.specs.declared.next.Next.{Next}
use Rattle.judge_lib.specs.Counts.{Counts}
use Rattle.judge_lib.specs.Room.{Short}
use Rattle.judge_lib.specs.Next.{FaultTold, next_in, WalkTold, Starts, NoOtherNext}
use Rattle.judge_lib.proofs.Judgement.{judged-fault, judged-walk}
use Rattle.judge_lib.proofs.Order.{reached-short}
use Rattle.judge_lib.proofs.Printed.{prints}

-- ---- the last tickets, filled in one after the other

pub filled-long : (l : List ℕ) (i x : ℕ) → length l ≡ 32 → length (set l i x) ≡ 32
filled-long l i x e = length-set l i x ∙ e

module _ (f : ℕ → ℕ) (l : List ℕ) where
  pub filled_more : (i x : ℕ) → i < length l → take i l ≡ list_of i f → x ≡ f i → take (i + 1) (set l i x) ≡ list_of (i + 1) f
  filled_more i x h e q = rw (add-one i, q, list-snoc i f) (take-suc-set l i (f i) h ∙ ap (λ (k : List ℕ). k ++ (f i ∷ [])) e)

  pub filled-all : (i : ℕ) → i ≤ 32 → 32 ≤ i → length l ≡ 32 → take i l ≡ list_of i f → l ≡ list_of 32 f
  filled-all i h g long e = let q : i ≡ 32 = omega arith in sym (take_all 32 l (omega (arith, long))) ∙ rw q at e

-- ---- after a walk

module _ (w : Passed) (ps bs ws old : List ℕ) where
  abbrev told : ℕ → Next
  told n = record { refused = w.refused; accepted = w.accepted; text = text.Neither; line = 0; used = n }

  pub none_told : w.refused ≢ 0 → WalkTold w ps bs ws old (told 0) old
  unfolding next_of over
  none_told n =
      let e : next_in w ps bs ws ≡ [] = rw (next_of, ne_eqb w.refused 0 n) in
      record { told_is = ap (λ (z : List ℕ). told (length z)) (sym e); array-is = sym (ap (λ (z : List ℕ). over z old) e) }

  pub some-told : {new : List ℕ} {used : ℕ} → w.refused ≡ 0 → Written old (start_of (program_from ps bs) (state_in ws)) new 0 used → length (next_in w ps bs ws) ≤ length old → WalkTold w ps bs ws old (told used) new
  unfolding next_of over
  some-told z h room =
      let e : next_in w ps bs ws ≡ start_of (program_from ps bs) (state_in ws) = rw (next_of, eq-eqb w.refused 0 z) in
      let all = fits_all h (rw e at room) in
      record { told_is = ap told (all.0 ∙ sym (ap length e)); array-is = all.1 ∙ sym (ap (λ (x : List ℕ). over x old) e) }

-- ---- what is promised

module _ (s : Paper) (a : List ℕ) where
  -- the number is a byte, and the start has room
  pub next-short : (w : Passed) (ps bs ws : List ℕ) → reached (program_from ps bs, walked w (state_in ws)) ≡ whole_course s a → Short w (next_in w ps bs ws)
  unfolding NextStartsFit next_start
  next-short w ps bs ws e = record { few = rw e (next-starts-fit s a); small = (reached-short s a w ws (course-from s a e)).small }

module _ (s : Paper) (a old : List ℕ) {r : Next} where
  pub fault-starts : (f : TextFault) → faulty f.text f.refused f.at ≡ whole_course s a → FaultTold s a f r → Starts s a old r old × Counts r.used old
  unfolding after_fault over next_start next_of
  fault-starts f e h =
      let j = judged-fault s a 8192 f.text f.refused f.at (course-from s a e) in
      let none : next_start s a ≡ [] = ap next_of (sym e) in
      let used : r.used ≡ length (next_start s a) = ap (λ (z : Next). z.used) h ∙ sym (ap length none) in
      let array : old ≡ over (next_start s a) old = sym (ap (λ (z : List ℕ). over z old) none) in (
        record {
          refused-is = ap (λ (z : Next). z.refused) h ∙ ap (λ (z : Judgement). z.verdict.refused) j;
          accepted-is = ap (λ (z : Next). z.accepted) h ∙ ap (λ (z : Judgement). z.verdict.accepted) j;
          text-is = ap (λ (z : Next). z.text) h ∙ ap (λ (z : Judgement). z.verdict.text) j;
          line-is = ap (λ (z : Next). z.line) h ∙ ap (λ (z : Judgement). z.verdict.line) j;
          used-is = used;
          array-is = array;
        },
        rw (ap (λ (z : Next). z.used) h) (zero-le, refl),
      )

  pub walk-starts : length old ≡ 8192 → (w : Passed) (ps bs ws : List ℕ) {new : List ℕ} → reached (program_from ps bs, walked w (state_in ws)) ≡ whole_course s a → WalkTold w ps bs ws old r new → Starts s a old r new × Counts r.used new
  unfolding after_walk in_room next_start ReportsFit NextStartsFit
  walk-starts long w ps bs ws {new} e h =
      let f : reached (walked w (state_in ws)) ≡ course s a = course-from s a e in
      let fits = reports-fit s a (walked w (state_in ws)) (sym f) in
      let j : after_walk (walked w (state_in ws)) (report (walked w (state_in ws))) a ≡ judged s a 8192 = sym (in-room (walked w (state_in ws)) fits) ∙ judged-walk s a 8192 (walked w (state_in ws)) f in
      let same : next_in w ps bs ws ≡ next_start s a = ap next_of e in
      let used : r.used ≡ length (next_start s a) = ap (λ (z : Next). z.used) h.told_is ∙ ap length same in
      let array : new ≡ over (next_start s a) old = h.array-is ∙ ap (λ (z : List ℕ). over z old) same in (
        record {
          refused-is = ap (λ (z : Next). z.refused) h.told_is ∙ ap (λ (z : Judgement). z.verdict.refused) j;
          accepted-is = ap (λ (z : Next). z.accepted) h.told_is ∙ ap (λ (z : Judgement). z.verdict.accepted) j;
          text-is = ap (λ (z : Next). z.text) h.told_is ∙ ap (λ (z : Judgement). z.verdict.text) j;
          line-is = ap (λ (z : Next). z.line) h.told_is ∙ ap (λ (z : Judgement). z.verdict.line) j;
          used-is = used;
          array-is = array;
        },
        (prints (next_start s a) old long (next-starts-fit s a) used array).1.1,
      )
    where
      in-room : (v : Walked) → length (report v) ≤ 8192 → in_room 8192 v (report v) a ≡ after_walk v (report v) a
      in-room v l = rw (le-leb (length (report v)) 8192 l, in_room)

pub no-other-next : NoOtherNext
unfolding NoOtherNext
no-other-next s a old r q b c h g =
    let n = h.refused-is ∙ sym g.refused-is in
    let k = h.accepted-is ∙ sym g.accepted-is in
    let x = h.text-is ∙ sym g.text-is in
    let l = h.line-is ∙ sym g.line-is in
    let u = h.used-is ∙ sym g.used-is in
    (λ i. record { refused = n i; accepted = k i; text = x i; line = l i; used = u i }, h.array-is ∙ sym g.array-is)
