-- With its mark, too, the report has room in 8,192 bytes, and 6 never occurs there.
-- Assumes nothing.
use Prim.Native.Nat.{ℕ}
use mathlib.Core.Path.{◌≡◌, refl}
use mathlib.Core.Logic.{◌≢◌, ⊎_elim}
use native.Mathlib.Omega.{arith}
use lib.Dec.{eqb}
use borrow.Author.Tests.{le-leb}
use Rattle.item_spec.proofs.Tests.{by-test}
use Rattle.model.specs.declared.Walked.{Walked}
use Rattle.judge_spec.specs.Course.{Course}
use Rattle.judge_spec.specs.Judged.{after_fault, after_walk, in_room}
use Rattle.judge_spec.proofs.Room.{read_fits}
use Rattle.times_spec.specs.Refusal.{times_number}
use Rattle.timing_spec.specs.Room.{MarkedReportsFit, TimedSixNever}
use Rattle.timing_spec.specs.Timed.{timed_course, timed_ending, timed}
use Rattle.timing_spec.proofs.Same.{Alike, in-sheet, in_start, in-answer, in-times, marked, courses-alike, all_read}

pub marked-reports-fit : MarkedReportsFit
unfolding MarkedReportsFit
marked-reports-fit s a x w m e = (all_read s a x w m e).1

-- "40 .. 41 .. 42"
times-not-six : (n : ℕ) → times_number n ≢ 6
unfolding times_number
times-not-six n =
    by-test (eqb n 3) (λ e. rw (e, times_number) (omega arith)) (λ e. rw (e, times_number) (by-test (eqb n 4) (λ f. rw f (omega arith)) (λ f. rw f (omega arith))))

pub timed-six-never : TimedSixNever
unfolding TimedSixNever timed timed_ending after_fault in_room after_walk
timed-six-never s a x = go (timed_course s a x) refl (courses-alike s a x)
  where
    go : {z : Course Walked} (y : Course (Walked × ℕ)) → timed_course s a x ≡ y → Alike z y → (timed_ending s a x 8192 y).judgement.verdict.refused ≢ 6
    go _ e (in-sheet l) = λ q. ⊎_elim (λ z. omega (arith, q, z)) (λ z. omega (arith, q, z)) l.range
    go _ e (in_start l) = λ q. ⊎_elim (λ z. omega (arith, q, z)) (λ z. omega (arith, q, z)) l.range
    go _ e (in-answer l) = λ q. ⊎_elim (λ z. omega (arith, q, z)) (λ z. omega (arith, q, z)) l.range
    go _ e (in-times {n = n} l) = times-not-six n
    go _ e (marked {w} {m} l) = let (q, f) = all_read s a x w m e in rw (le-leb _ _ f, in_room) (read_fits s a w q).1
