-- The report of a plan lies within its room.
-- Assumes nothing.
use Prim.Native.Nat.{ℕ, ◌≤◌, zero-le}
use mathlib.Core.List.{List}
use mathlib.Core.Path.{◌≡◌, refl}
use lib.Dec.{leb}
use lib.ListN.{length}
use borrow.Author.Tests.{leb-true}
use Rattle.item_spec.proofs.Tests.{by-test}
use Rattle.io.specs.Counts.{IsPrefixLen}
use Rattle.judge_spec.specs.Course.{Course, faulty, reached}
use Rattle.aeolus_model.specs.Model.{Universe}
use Rattle.aeolus_rules_spec.specs.Run.{Ran}
use Rattle.aeolus_judge_spec.specs.declared.Verdict.{Verdict}
use Rattle.aeolus_judge_spec.specs.Report.{report}
use Rattle.aeolus_judge_spec.specs.Course.{course}
use Rattle.aeolus_judge_spec.specs.Judged.{Judgement, after_fault, no_room, after_run, in_room, ending, judged, buffer}
use Rattle.compare_batch.proofs.Room.{counted}

abbrev Fits : ℕ → Judgement → Type 0
Fits room j = (j.verdict.written ≡ length j.bytes) × (length j.bytes ≤ room)

module _ (s a : List ℕ) (room : ℕ) where
  fits-ending : (z : Course (Universe × Ran)) → Fits room (ending s a room z)
  unfolding ending after_fault in_room after_run no_room
  fits-ending (faulty x n at) = (refl, zero-le)
  fits-ending (reached (u, w)) =
      by-test (leb (length (report u w)) room)
      (λ e. rw (e, in_room) (refl, leb-true (length (report u w)) room e))
      (λ e. rw (e, in_room) (refl, zero-le))

  fits : Fits room (judged s a room)
  unfolding judged
  fits = fits-ending (course s a)

pub plan-counts : (s a old : List ℕ) {v : Verdict} {new : List ℕ} → v ≡ (judged s a (length old)).verdict → new ≡ buffer s a old → IsPrefixLen v.written new
plan-counts s a old {v} {new} e is =
    let f = fits s a (length old) in
    counted (judged s a (length old)).bytes old (rw e f.0) f.1 is
