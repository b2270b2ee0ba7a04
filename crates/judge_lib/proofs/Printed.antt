-- What is printed: after 1 to 5 the three lines, which have room, and else the bytes of the report.
-- Assumes nothing.
use Prim.Native.Nat.{ℕ, ◌≤◌, zero-le}
use mathlib.Core.List.{List, []}
use mathlib.Core.Path.{◌≡◌, refl, sym, ap, ◌∙◌}
use mathlib.Core.Logic.{⊎_elim, inl, inr, by_cases}
use native.Mathlib.Omega.{arith}
use native.Mathlib.Decide.{dec_lt, ℕ_discrete}
use lib.Dec.{leb}
use lib.ListN.{length, length-append, length-drop}
use lib.Seq.{length-take-le}
use borrow.Author.Tests.{leb-true}
use Rattle.item_spec.proofs.Tests.{by-test}
use Rattle.model.specs.declared.Walked.{Walked}
use Rattle.model.specs.declared.Text.{Text}
use Rattle.model.specs.declared.Text.TheVariants as text
use Rattle.report_spec.specs.Report.{report}
use Rattle.report_spec.specs.Faults.{fault_text}
use Rattle.start_spec.specs.Paper.{Paper}
use Rattle.judge_spec.specs.declared.Verdict.{Verdict}
use Rattle.judge_spec.specs.Course.{Course, course}
use Rattle.judge_spec.specs.Judged.{Judgement, after_fault, no_room, after_walk, in_room, ending, judged, over, printing, printed}
use Rattle.judge_spec.specs.Once.{Judges, Prints as PrintsOf}
use Rattle.judge_spec.proofs.Read.{fault-numbered}
use Rattle.write_items.specs.Written.{Written}
use Rattle.write_items.proofs.Laws.{fits_all}
use Rattle.write_report.proofs.Bounds.{fault-short}
use Rattle.judge_lib.specs.Counts.{Counts}
use Rattle.judge_lib.specs.Shown.{OfText, Shown}
use Rattle.judge_lib.proofs.Order.{walked-numbers, Told, in-sheet, in_start, in-answer, walks, course-told}

-- ---- which of the two is printed: three lines after the numbers that are of a text, and else the report

-- of a verdict's number, text and line, and of the bytes that it wrote
pub record Chosen (OfText : ℕ → Type 0) (n : ℕ) (x : Text) (line written : ℕ) (bytes print : List ℕ) : Type 0 where
  pub three-lines : OfText n → (print ≡ fault_text x line n) × (bytes ≡ []) × (length print ≤ 8192)
  pub the-report : (OfText n → ⊥) → print ≡ bytes
  pub written_is : written ≡ length bytes
  pub has_room : length bytes ≤ 8192

abbrev pub ChosenOf : (ℕ → Type 0) → Judgement → List ℕ → Type 0
ChosenOf OfText j print = Chosen OfText j.verdict.refused j.verdict.text j.verdict.line j.verdict.written j.bytes print

module _ (OfText : ℕ → Type 0) (n : ℕ) (x : Text) (line : ℕ) where
  pub report-chosen : (r : List ℕ) → (OfText n → ⊥) → length r ≤ 8192 → Chosen OfText n x line (length r) r r
  report-chosen r h l = record { three-lines = λ z. absurd (h z); the-report = λ _. refl; written_is = refl; has_room = l }

  -- after a fault nothing is written, and the three lines are short
  pub lines-chosen : OfText n → Chosen OfText n x line 0 [] (fault_text x line n)
  lines-chosen h = record {
    three-lines = λ _. (refl, refl, omega (arith, fault-short x line n));
    the-report = λ g. absurd (g h);
    written_is = refl;
    has_room = zero-le;
  }

pub walk-chosen : (OfText : ℕ → Type 0) (w : Walked) (r a : List ℕ) → (OfText w.refused → ⊥) → (OfText 6 → ⊥) → ChosenOf OfText (in_room 8192 w r a) (in_room 8192 w r a).bytes
unfolding in_room after_walk no_room
walk-chosen OfText w r a h g =
    by-test (leb (length r) 8192)
    (λ e. rw (e, in_room) (report-chosen OfText w.refused text.Neither 0 r h (leb-true (length r) 8192 e)))
    (λ e. rw (e, in_room) (report-chosen OfText 6 text.Neither 0 [] g zero-le))

-- ---- what stands in the buffer, which held `old`

abbrev pub Prints : List ℕ → List ℕ → List ℕ → ℕ → Type 0
Prints print old new used = (used ≡ length print) × ((new ≡ over print old) × Counts used new)

-- all of it has room
pub prints : (print old : List ℕ) {new : List ℕ} {used : ℕ} → length old ≡ 8192 → length print ≤ 8192 → used ≡ length print → new ≡ over print old → Prints print old new used
unfolding over
prints print old {new} {used} long room e is =
    let h : used ≤ length new = rw is (simp (length-append, length-drop) (omega arith)) in
    (e, (is, (h, sym (length-take-le used new h))))

module _ {OfText : ℕ → Type 0} {n line written : ℕ} {x : Text} {bytes print : List ℕ} (k : Chosen OfText n x line written bytes print) (old : List ℕ) {mid : List ℕ}
    (long : length old ≡ 8192) (after : mid ≡ over bytes old) where
  pub report-printed : (OfText n → ⊥) → Prints print old mid written
  report-printed g =
      let e = k.the-report g in
      prints print old long (rw e k.has_room) (rw e k.written_is) (rw e after)

  pub lines-printed : {new : List ℕ} {used : ℕ} → OfText n → Written mid (fault_text x line n) new 0 used → Prints print old new used
  unfolding over
  lines-printed h w =
      let l = k.three-lines h in
      let kept : mid ≡ old = after ∙ ap (λ (b : List ℕ). over b old) l.1 in
      let all = fits_all (rw (kept, ← l.0) at w) (omega (arith, l.2, long)) in
      prints print old long l.2 all.0 all.1

-- where the numbers of a text are 1 to 5 and 50
module _ {n line written : ℕ} {x : Text} {bytes print : List ℕ} (k : Chosen OfText n x line written bytes print) (old : List ℕ) {mid new : List ℕ} {used : ℕ}
    (long : length old ≡ 8192) (after : mid ≡ over bytes old) (w : Shown x line n written mid used new) where
  as-report : (OfText n → ⊥) → Prints print old new used
  as-report g = let e = w.the-report g in rw (e.0, e.1) (report-printed k old long after g)

  pub shown-printed : Prints print old new used
  shown-printed =
      by_cases (ℕ_discrete n 50) (λ e. lines-printed k old long after (inr e) (w.three-lines (inr e))) (λ e.
      by_cases (dec_lt 0 n) (λ h.
      by_cases (dec_lt n 6) (λ g. let i : OfText n = inl (omega arith, omega arith) in lines-printed k old long after i (w.three-lines i)) (λ g. as-report (⊎_elim (λ z. omega (arith, z)) e)))
      (λ h. as-report (⊎_elim (λ z. omega (arith, z)) e)))

-- ---- the judge's print

chosen : (s : Paper) (a : List ℕ) → ChosenOf OfText (judged s a 8192) (printed s a)
unfolding judged printed ending printing after_fault
chosen s a = go (course s a) refl (course-told s a)
  where
    go : (z : Course Walked) → course s a ≡ z → Told s.sheet s.beginning a z → ChosenOf OfText (ending s a 8192 z) (printing s a z)
    go _ e (in-sheet {n} {at} f) = lines-chosen OfText n text.Sheet _ (fault-numbered s a text.Sheet n at e).range
    go _ e (in_start {n} {at} q f) = lines-chosen OfText n text.Start _ (fault-numbered s a text.Start n at e).range
    go _ e (in-answer {n} {at} f) = lines-chosen OfText n text.Answer _ (fault-numbered s a text.Answer n at e).range
    go _ e (walks {x}) =
        let h = (walked-numbers s a x e).refused.range in
        walk-chosen OfText x (report x) a (λ g. ⊎_elim (λ y. ⊎_elim (λ z. omega (arith, y, z)) (λ z. omega (arith, y, z)) h) (λ y. ⊎_elim (λ z. omega (arith, y, z)) (λ z. omega (arith, y, z)) h) g) (λ g. ⊎_elim (λ y. omega (arith, y)) (λ y. omega (arith, y)) g)

pub shown-prints : (s : Paper) (a old : List ℕ) {v : Verdict} {mid new : List ℕ} {used : ℕ} → length old ≡ 8192 → Judges s a old v mid
    → Shown v.text v.line v.refused v.written mid used new → PrintsOf s a old used new × Counts used new
shown-prints s a old {v} long h w =
    let p = shown-printed (chosen s a) old long (rw long at h.buffer-is) (rw (h.verdict-is, long) at w) in
    (record { used-is = p.0; array-is = p.1.0 }, p.1.1)
