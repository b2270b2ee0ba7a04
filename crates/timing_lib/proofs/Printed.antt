-- What is printed: after 1 to 5 and 40 to 42 the three lines, which have room, and else the bytes of the report with its mark.
-- Assumes nothing.
use Prim.Native.Nat.{ℕ, ◌≤◌}
use mathlib.Core.List.{List}
use mathlib.Core.Path.{◌≡◌, refl}
use mathlib.Core.Logic.{◌⊎◌, ⊎_elim, inl, inr}
use native.Mathlib.Omega.{arith}
use lib.Dec.{eqb}
use lib.ListN.{length}
use Rattle.item_spec.proofs.Tests.{by-test}
use Rattle.model.specs.declared.Walked.{Walked}
use Rattle.model.specs.declared.Text.TheVariants as text
use Rattle.report_spec.specs.Faults.{fault_text}
use Rattle.start_spec.specs.Paper.{Paper}
use Rattle.judge_spec.specs.declared.Verdict.{Verdict}
use Rattle.judge_spec.specs.Course.{Course}
use Rattle.judge_spec.specs.Judged.{after_fault}
use Rattle.write_items.specs.Written.{Written}
use Rattle.judge_lib.specs.Counts.{Counts}
use Rattle.judge_lib.proofs.Order.{walked-numbers}
use Rattle.judge_lib.proofs.Printed.{ChosenOf, walk-chosen, lines-chosen, Prints, report-printed, lines-printed}
use Rattle.times_spec.specs.Refusal.{times_number}
use Rattle.timing_spec.specs.Timed.{timed_course, marked_report, timed_ending, timed, timed_verdict, timed_buffer, timed_printing, timed_printed}
use Rattle.timing_spec.proofs.Same.{Alike, in-sheet, in_start, in-answer, in-times, marked, courses-alike, all_read}
use Rattle.timing_lib.specs.Once.{PromisedPrint}
use Rattle.timing_lib.proofs.Order.{TimedTold, sheet-fault, start-fault, answer-fault, times-fault, clocked-walk, timed-told}

-- of the sheet, the start or the answer, or of the times
abbrev pub OfText : ℕ → Type 0
OfText n = (((1 ≤ n) × (n ≤ 5)) ⊎ (n ≡ 50)) ⊎ ((40 ≤ n) × (n ≤ 42))

of-times : (n : ℕ) → OfText (times_number n)
unfolding times_number
of-times n =
    inr (by-test (eqb n 3) (λ e. rw (e, times_number) (omega arith)) (λ e. rw (e, times_number) (by-test (eqb n 4) (λ f. rw f (omega arith)) (λ f. rw f (omega arith)))))

chosen : (s : Paper) (a x : List ℕ) → ChosenOf OfText (timed s a x 8192).judgement (timed_printed s a x)
unfolding timed timed_ending timed_printed timed_printing after_fault
chosen s a x = go (timed_course s a x) refl (courses-alike s a x) (timed-told s a x)
  where
    go : {y : Course Walked} (z : Course (Walked × ℕ)) → timed_course s a x ≡ z → Alike y z → TimedTold s.sheet s.beginning a x z → ChosenOf OfText (timed_ending s a x 8192 z).judgement (timed_printing s a x z)
    go _ e (in-sheet l) (sheet-fault {n} {at} f) = lines-chosen OfText n text.Sheet _ (inl l.range)
    go _ e (in_start l) (start-fault {n} {at} q f) = lines-chosen OfText n text.Start _ (inl l.range)
    go _ e (in-answer l) (answer-fault {n} {at} f) = lines-chosen OfText n text.Answer _ (inl l.range)
    go _ e (in-times l) (times-fault {n} {at} f) = lines-chosen OfText (times_number n) text.Times _ (of-times n)
    go _ e (marked l) (clocked-walk {w} {m}) =
        let h = (walked-numbers s a w (all_read s a x w m e).0).refused.range in
        walk-chosen OfText w (marked_report w m) a
        (⊎_elim (⊎_elim (λ g. ⊎_elim (λ z. omega (arith, g, z)) (λ z. omega (arith, g, z)) h) (λ g. ⊎_elim (λ z. omega (arith, g, z)) (λ z. omega (arith, g, z)) h)) (λ g. ⊎_elim (λ z. omega (arith, g, z)) (λ z. omega (arith, g, z)) h))
        (⊎_elim (⊎_elim (λ g. omega (arith, g)) (λ g. omega (arith, g))) (λ g. omega (arith, g)))

module _ (s : Paper) (a x old : List ℕ) {v : Verdict} {mid : List ℕ} (long : length old ≡ 8192) (is : v ≡ (timed_verdict s a x (length old)).verdict) (after : mid ≡ timed_buffer s a x old) where
  -- as the judge's print is proved to print
  promised : {new : List ℕ} {used : ℕ} → Prints (timed_printed s a x) old new used → PromisedPrint s a x old used new × Counts used new
  promised h = (record { used-is = h.0; out-is = h.1.0 }, h.1.1)

  pub report-prints : (OfText v.refused → ⊥) → PromisedPrint s a x old v.written mid × Counts v.written mid
  report-prints h = rw (is, long) (promised (report-printed (chosen s a x) old long (rw long at after) (rw (is, long) at h)))

  pub lines-print : {new : List ℕ} {used : ℕ} → OfText v.refused → Written mid (fault_text v.text v.line v.refused) new 0 used → PromisedPrint s a x old used new × Counts used new
  lines-print h w = promised (lines-printed (chosen s a x) old long (rw long at after) (rw (is, long) at h) (rw (is, long) at w))
