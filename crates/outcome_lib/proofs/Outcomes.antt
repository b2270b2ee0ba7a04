-- What the words say is what the texts come to.
-- Assumes nothing.
use Prim.Native.Nat.{ℕ, ◌-◌}
use mathlib.Core.Bool.{Bool, true, false}
use mathlib.Core.List.{List}
use mathlib.Core.Path.{◌≡◌, refl, sym, ap, ◌∙◌}
use lib.ListN.{length}
use Rattle.item_spec.proofs.Tests.{by-test}
use Rattle.model.specs.declared.Tables.{Tables}
use Rattle.model.specs.declared.Program.{Program}
use Rattle.model.specs.declared.Text.{Text}
use Rattle.model.specs.declared.Text.TheVariants as text
use Rattle.model.specs.declared.Walked.{Walked}
use Rattle.model.specs.Empty.{no_tables, no_program}
use Rattle.read_spec.specs.Limits.{length_ok}
use Rattle.read_spec.specs.Lines.{Run, on, stop}
use Rattle.read_spec.specs.Texts.{sheet}
use Rattle.read_chain.specs.Whole.{whole, outcome}
use Rattle.read_sheet.specs.Sheet.{sheet_read}
use Rattle.done_spec.specs.Done.{all_done}
use Rattle.start_spec.specs.Paper.{Paper}
use Rattle.judge_spec.specs.declared.Place.{Place}
use Rattle.judge_spec.specs.declared.Verdict.{Verdict}
use Rattle.judge_spec.specs.Course.{Course, faulty, reached, short, read, sheet_course, course}
use Rattle.judge_spec.specs.Judged.{judged, lent_bytes}
use Rattle.judge_spec.specs.Once.{Judges, Places}
use Rattle.timing_spec.specs.declared.Timed.{Timed}
use Rattle.timing_spec.specs.Timed.{timed}
use Rattle.timing_spec.specs.Once.{PromisedAnswer}
use Rattle.outcome_spec.specs.Outcome.{said_program, fault_in, after_steps, outcome_of}

-- ---- the sheet's program

said-fault : (s : List ℕ) (x : Text) (n at : ℕ) → sheet_course s ≡ faulty x n at → said_program s ≡ no_program
unfolding said_program
said-fault s x n at e = ap (λ (z : Course (Tables × Program)). elim z [ faulty y m k ↦ no_program | reached y ↦ y.1 ]) e

said-reached : (s : List ℕ) (y : Tables × Program) → sheet_course s ≡ reached y → said_program s ≡ y.1
unfolding said_program
said-reached s y e = ap (λ (z : Course (Tables × Program)). elim z [ faulty x m k ↦ no_program | reached y ↦ y.1 ]) e

module _ (s : List ℕ) where
  course-long : length_ok (length s) ≡ false → sheet_course s ≡ faulty text.Sheet 1 0
  unfolding sheet_course short
  course-long l = rw (l, short)

  course-on : length_ok (length s) ≡ true → (y : Tables × Program) (r : List ℕ) → sheet s ≡ on y r → sheet_course s ≡ reached y
  unfolding sheet_course short read
  course-on l y r e = rw (l, short, e, read)

  course-stop : length_ok (length s) ≡ true → (n : ℕ) (r : List ℕ) → sheet s ≡ stop n r → sheet_course s ≡ faulty text.Sheet n (length s - length r)
  unfolding sheet_course short read
  course-stop l n r e = rw (l, short, e, read)

  lines-read : length_ok (length s) ≡ true → (z : Run (Tables × Program)) → sheet s ≡ z → (outcome (no_tables, no_program) s z).value.1 ≡ said_program s
  lines-read l (on y r) e = sym (said-reached s y (course-on l y r e))
  lines-read l (stop n r) e = sym (said-fault s text.Sheet n (length s - length r) (course-stop l n r e))

  -- the program that a sheet's reader leaves
  pub program-read : (sheet_read s).value.1 ≡ said_program s
  unfolding whole
  program-read =
      by-test (length_ok (length s)) (λ l. rw (l, whole) (lines-read l (sheet s) refl)) (λ l. rw (l, whole) (sym (said-fault s text.Sheet 1 0 (course-long l))))

-- ---- the outcome of a walk that the texts come to

pub fault-is : (s : Paper) (a : List ℕ) (x : Text) (n at : ℕ) → faulty x n at ≡ course s a → fault_in x ≡ outcome_of s a
unfolding outcome_of
fault-is s a x n at e = rw (← e)

pub walk-is : (s : Paper) (a : List ℕ) (w : Walked) (p : Program) {ended : Bool} → reached w ≡ course s a → p ≡ said_program s.sheet
    → ended ≡ all_done p w.configuration → after_steps w.refused ended ≡ outcome_of s a
unfolding outcome_of
walk-is s a w p e f g = rw (← e, g, f)

-- ---- the verdict and the place in 8,192 bytes

pub placed-in : {s : Paper} {a : List ℕ} {room : ℕ} {p : Place} → room ≡ 8192 → Places s a room p → p ≡ (judged s a lent_bytes).place
placed-in {s} {a} l h = h.place_is ∙ ap (λ (n : ℕ). (judged s a n).place) l

module _ {s : Paper} {a old : List ℕ} (l : length old ≡ 8192) where
  pub judged-in : {v : Verdict} {after : List ℕ} → Judges s a old v after → v ≡ (judged s a lent_bytes).verdict
  judged-in h = h.verdict-is ∙ ap (λ (n : ℕ). (judged s a n).verdict) l

  pub timed-in : {x : List ℕ} {t : Timed} {after : List ℕ} → PromisedAnswer s a x old t after → t.verdict ≡ (timed s a x lent_bytes).judgement.verdict
  timed-in {x} h = ap (λ (t : Timed). t.verdict) h.verdict-is ∙ ap (λ (n : ℕ). (timed s a x n).judgement.verdict) l

  pub marked-in : {x : List ℕ} {t : Timed} {after : List ℕ} → PromisedAnswer s a x old t after → t.mark ≡ (timed s a x lent_bytes).mark
  marked-in {x} h = ap (λ (t : Timed). t.mark) h.verdict-is ∙ ap (λ (n : ℕ). (timed s a x n).mark) l
