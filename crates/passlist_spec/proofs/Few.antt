-- No mark is above 1,000.
-- Assumes nothing.
use Prim.Native.Nat.{ℕ, ◌≤◌, zero-le}
use mathlib.Core.List.{List}
use native.Mathlib.Omega.{arith}
use lib.Dec.{leb}
use lib.ListN.{length}
use Rattle.item_spec.proofs.Tests.{by-test}
use Rattle.model.specs.declared.Walked.{Walked}
use Rattle.start_spec.specs.Paper.{Paper}
use Rattle.judge_spec.specs.Course.{Course}
use Rattle.timing_spec.specs.Timed.{mark_in_room, timed_ending, timed}
use Rattle.timing_spec.proofs.Same.{Alike, in-sheet, in-answer, in_start, in-times, marked, courses-alike}

in-room : (room : ℕ) (r : List ℕ) (m : ℕ) → m ≤ 1000 → mark_in_room room r m ≤ 1000
unfolding mark_in_room
in-room room r m h = by-test (leb (length r) room) (λ e. rw (e, mark_in_room) h) (λ e. rw (e, mark_in_room) (omega arith))

ending-few : (s : Paper) (a x : List ℕ) (room : ℕ) {z : Course Walked} {y : Course (Walked × ℕ)} → Alike z y → (timed_ending s a x room y).mark ≤ 1000
unfolding timed_ending
ending-few s a x room (in-sheet l) = zero-le
ending-few s a x room (in-answer l) = zero-le
ending-few s a x room (in_start l) = zero-le
ending-few s a x room (in-times l) = zero-le
ending-few s a x room (marked h) = in-room room _ _ h

pub marks-few : (s : Paper) (a x : List ℕ) (room : ℕ) → (timed s a x room).mark ≤ 1000
unfolding timed
marks-few s a x room = ending-few s a x room (courses-alike s a x)
