-- What the readers answered, as the faults of crates/faults_spec, and what is printed of them.
-- Assumes nothing.
use Prim.Native.Nat.{ℕ, ◌≤◌}
use mathlib.Core.Bool.{Bool, true}
use mathlib.Core.List.{List, ◌++◌}
use mathlib.Core.Logic.{◌≢◌}
use mathlib.Core.Path.{◌≡◌, refl, sym, ap, ◌∙◌}
use native.Mathlib.Omega.{arith}
use lib.Dec.{eqb}
use lib.ListN.{length, length-append}
use lib.Seq.{length-take-le}
use Rattle.io.specs.Counts.{IsPrefixLen}
use Rattle.item_spec.proofs.Tests.{by-test}
use Rattle.model.specs.declared.Text.{Text}
use Rattle.model.specs.declared.Text.TheVariants as text
use Rattle.read_spec.specs.Limits.{length_ok}
use Rattle.read_spec.specs.Lines.{Run, on, stop}
use Rattle.start_spec.specs.Paper.{Paper}
use Rattle.judge_spec.specs.Course.{short, read}
use Rattle.judge_spec.specs.Judged.{fault_line, over}
use Rattle.judge_lib.specs.declared.papers.PaperFault.{PaperFault}
use Rattle.judge_lib.specs.Alone.{no_fault, paper_fault}
use Rattle.times_spec.specs.declared.Times.{Times}
use Rattle.times_spec.specs.Refusal.{times_number}
use Rattle.times_spec.specs.Text.{times}
use Rattle.times_spec.proofs.Read.{times-stop}
use Rattle.read_times.specs.declared.TimesRead.{TimesRead}
use Rattle.read_times.specs.Times.{answered, times_read}
use Rattle.write_items.specs.Written.{Written}
use Rattle.write_items.proofs.Laws.{fits_all, length-written}
use Rattle.write_report.proofs.Bounds.{fault-short}
use Rattle.faults_spec.specs.Faults.{of_start, start_fault, times_course, times_fault, found_text, faults_text}

-- ---- the start

module _ (s : Paper) (f : PaperFault) (is : f ≡ paper_fault s) where
  as-paper : of_start f.text f ≡ start_fault s
  unfolding start_fault
  as-paper = ap (λ (g : PaperFault). of_start g.text g) is

  pub at-start : f.text ≡ text.Start → f ≡ start_fault s
  at-start e = sym (ap (λ (x : Text). of_start x f) e) ∙ as-paper

  pub elsewhere : (f.text ≡ text.Start → ⊥) → no_fault ≡ start_fault s
  elsewhere h = go f.text h ∙ as-paper
    where
      go : (x : Text) → (x ≡ text.Start → ⊥) → no_fault ≡ of_start x f
      go text.Neither h = refl
      go text.Sheet h = refl
      go text.Answer h = refl
      go text.Times h = refl
      go text.Start h = absurd (h refl)

-- ---- the times

-- what their reader answered
pub record TimesTold (x : List ℕ) (r : TimesRead) : Type 0 where
  pub none : r.refused ≡ 0 → no_fault ≡ times_fault x
  pub some : r.refused ≢ 0
      → ◌≡◌ {A = PaperFault} (record { text = text.Times; refused = times_number r.refused; line = fault_line r.refused r.place x }) (times_fault x)

pub times-told : (x : List ℕ) {r : TimesRead} → r ≡ times_read x → TimesTold x r
unfolding times_read times_fault times_course short read
times-told x is =
    by-test (length_ok (length x)) (λ l. rw (is, l, times_read) (go l (times x) refl))
    (λ l. rw (is, l, times_read) (record { none = λ z. absurd (omega (arith, z)); some = λ _. rw (l, short) }))
  where
    go : length_ok (length x) ≡ true → (z : Run Times) → times x ≡ z → TimesTold x (answered x z)
    go l (on ts r) e = record { none = λ _. rw (l, short, e, read); some = λ h. absurd (h refl) }
    go l (stop n r) e = let s = times-stop x n r e in record { none = λ z. absurd (omega (arith, z, s.1)); some = λ _. rw (l, short, e, read) }

-- ---- what is printed

found-short : (f : PaperFault) → length (found_text f) ≤ 67
found-short f =
    by-test (eqb f.refused 0) (λ z. rw z (omega arith)) (λ z. rw z (fault-short f.text f.line f.refused))

pub prints-so : (s : Paper) (b : Bool) (x old new bytes : List ℕ) (n : ℕ) → faults_text s b x ≡ bytes → length bytes ≤ 201 → length old ≡ 256 → Written old bytes new 0 n
    → (n ≡ length (faults_text s b x)) × (new ≡ over (faults_text s b x) old) × IsPrefixLen n new
unfolding over
prints-so s b x old new bytes n q short l w =
    let (size, is) = fits_all w (omega arith) in
    let long : length new ≡ 256 = length-written w ∙ l in
    (rw q size, rw q is, (omega arith, sym (length-take-le n new (omega arith))))

pub all_short : (f g h : PaperFault) → length (found_text f ++ found_text g ++ found_text h) ≤ 201
all_short f g h = simp length-append (omega (arith, found-short f, found-short g, found-short h))
