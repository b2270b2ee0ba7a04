-- What is printed: after 1 to 5 the three lines, which have room, and else the bytes of the report.
-- Assumes nothing.
use Prim.Native.Nat.{ℕ, zero-le}
use mathlib.Core.List.{List, []}
use mathlib.Core.Path.{◌≡◌, refl}
use mathlib.Core.Logic.{⊎_elim, inl}
use native.Mathlib.Omega.{arith}
use lib.Dec.{leb}
use lib.ListN.{length}
use borrow.Author.Tests.{leb-true}
use Rattle.item_spec.proofs.Tests.{by-test}
use Rattle.model.specs.declared.Text.TheVariants as text
use Rattle.judge_spec.specs.Course.{Course}
use Rattle.start_spec.specs.Paper.{nothing}
use Rattle.judge_lib.proofs.Order.{Told, in-sheet, in_start, in-answer, walks}
use Rattle.judge_lib.specs.Shown.{OfText, Shown}
use Rattle.judge_lib.proofs.Printed.{Chosen as ChosenBy, report-chosen, lines-chosen, Prints, shown-printed}
use Rattle.aeolus_model.specs.Model.{Universe}
use Rattle.aeolus_rules_spec.specs.Run.{Ran}
use Rattle.aeolus_judge_spec.specs.declared.Verdict.{Verdict}
use Rattle.aeolus_judge_spec.specs.Report.{report}
use Rattle.aeolus_judge_spec.specs.Course.{course}
use Rattle.aeolus_judge_spec.specs.Judged.{Judgement, after_fault, no_room, after_run, in_room, ending, judged, buffer, printing, printed}
use Rattle.aeolus_judge_spec.proofs.Room.{read_fits, fault-numbered}
use Rattle.aeolus_lib.proofs.Order.{course-told}

abbrev Chosen : Judgement → List ℕ → Type 0
Chosen j print = ChosenBy OfText j.verdict.refused j.verdict.text j.verdict.line j.verdict.written j.bytes print

run-chosen : (w : Ran) (r a : List ℕ) → (OfText w.refused → ⊥) → Chosen (in_room 8192 w r a) (in_room 8192 w r a).bytes
unfolding in_room after_run no_room
run-chosen w r a h =
    by-test (leb (length r) 8192)
    (λ e. rw (e, in_room) (report-chosen OfText w.refused text.Neither 0 r h (leb-true (length r) 8192 e)))
    (λ e. rw (e, in_room) (report-chosen OfText 6 text.Neither 0 [] (⊎_elim (λ z. omega (arith, z)) (λ z. omega (arith, z))) zero-le))

chosen : (s a : List ℕ) → Chosen (judged s a 8192) (printed s a)
unfolding judged printed ending printing after_fault
chosen s a = go (course s a) refl (course-told s a)
  where
    go : (z : Course (Universe × Ran)) → course s a ≡ z → Told s nothing a z → Chosen (ending s a 8192 z) (printing s a z)
    go _ e (in-sheet {n} {at} f) = lines-chosen OfText n text.Sheet _ (inl (fault-numbered s a text.Sheet n at e))
    go _ e (in_start {n} {at} q f) = lines-chosen OfText n text.Start _ (inl (fault-numbered s a text.Start n at e))
    go _ e (in-answer {n} {at} f) = lines-chosen OfText n text.Answer _ (inl (fault-numbered s a text.Answer n at e))
    go _ e (walks {x}) = let h = read_fits s a x.0 x.1 e in run-chosen x.1 (report x.0 x.1) a (⊎_elim (λ g. h.of-step (g.0, omega (arith, g.1))) h.not-fifty)

pub shown-prints : (s a old : List ℕ) {v : Verdict} {mid new : List ℕ} {used : ℕ} → length old ≡ 8192 → v ≡ (judged s a (length old)).verdict → mid ≡ buffer s a old
    → Shown v.text v.line v.refused v.written mid used new → Prints (printed s a) old new used
shown-prints s a old long is after w = shown-printed (chosen s a) old long (rw long at after) (rw (is, long) at w)
