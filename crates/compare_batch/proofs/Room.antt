-- The report lies within its room.
-- Assumes nothing.
use Prim.Native.Nat.{ℕ, ◌≤◌, zero-le}
use mathlib.Core.List.{List}
use mathlib.Core.Path.{◌≡◌, refl}
use native.Mathlib.Omega.{arith}
use lib.Dec.{leb}
use lib.ListN.{length, length-append, length-drop}
use borrow.Author.Tests.{leb-true}
use Rattle.item_spec.proofs.Tests.{by-test}
use Rattle.io.specs.Counts.{IsPrefixLen}
use Rattle.io.proofs.Counting.{prefix_len_of_le}
use Rattle.model.specs.declared.Walked.{Walked}
use Rattle.report_spec.specs.Report.{report}
use Rattle.start_spec.specs.Paper.{Paper}
use Rattle.judge_spec.specs.declared.Verdict.{Verdict}
use Rattle.judge_spec.specs.Course.{Course, faulty, reached, course}
use Rattle.judge_spec.specs.Judged.{Judgement, after_fault, no_room, after_walk, in_room, ending, judged, over, buffer}

-- so many bytes are written as the report has, and they have room
abbrev Fits : ℕ → Judgement → Type 0
Fits room j = (j.verdict.written ≡ length j.bytes) × (length j.bytes ≤ room)

module _ (s : Paper) (a : List ℕ) (room : ℕ) where
  fits-ending : (z : Course Walked) → Fits room (ending s a room z)
  unfolding ending after_fault in_room after_walk no_room
  fits-ending (faulty x n at) = (refl, zero-le)
  fits-ending (reached w) =
      by-test (leb (length (report w)) room)
      (λ e. rw (e, in_room) (refl, leb-true (length (report w)) room e))
      (λ e. rw (e, in_room) (refl, zero-le))

  fits : Fits room (judged s a room)
  unfolding judged
  fits = fits-ending (course s a)

-- so many bytes, which have room, stand in a buffer that they were written over
pub counted : (bytes old : List ℕ) {n : ℕ} {new : List ℕ} → n ≡ length bytes → length bytes ≤ length old → new ≡ over bytes old → IsPrefixLen n new
unfolding over
counted bytes old {n} {new} e few is = prefix_len_of_le n new (rw (e, is) (simp (length-append, length-drop) (omega (arith, few))))

pub written-counts : (s : Paper) (a old : List ℕ) {v : Verdict} {new : List ℕ} → v ≡ (judged s a (length old)).verdict → new ≡ buffer s a old → IsPrefixLen v.written new
written-counts s a old {v} {new} e is =
    let f = fits s a (length old) in
    counted (judged s a (length old)).bytes old (rw e f.0) f.1 is
