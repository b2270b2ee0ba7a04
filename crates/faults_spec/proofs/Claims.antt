-- Each text's fault is the judge's or the timing's: its course is faulty, and so is every answer's.
-- Assumes nothing.
use Prim.Native.Nat.{ℕ, ◌-◌}
use mathlib.Core.Bool.{true, false}
use mathlib.Core.List.{List, []}
use mathlib.Core.Logic.{◌≢◌, ⊎_elim}
use mathlib.Core.Path.{◌≡◌, refl, sym, ap, ◌∙◌}
use native.Mathlib.Omega.{arith}
use lib.Dec.{eqb}
use lib.ListN.{length}
use Rattle.item_spec.proofs.Tests.{by-test}
use Rattle.model.specs.declared.Tables.{Tables}
use Rattle.model.specs.declared.Program.{Program}
use Rattle.model.specs.declared.Configuration.{Configuration}
use Rattle.model.specs.declared.Answer.{Answer}
use Rattle.model.specs.declared.Text.{Text}
use Rattle.model.specs.declared.Text.TheVariants as text
use Rattle.read_spec.specs.Limits.{length_ok}
use Rattle.read_spec.specs.Lines.{Run, Lines, on, stop}
use Rattle.read_spec.specs.Texts.{sheet}
use Rattle.read_spec.proofs.Lawful.{sheet-stops}
use Rattle.start_spec.specs.Paper.{Beginning, nothing, given, Paper, from, nothing_up}
use Rattle.start_spec.specs.Text.{start_length_ok, Outset}
use Rattle.start_spec.specs.Served.{some_unserved}
use Rattle.judge_spec.specs.Course.{Course, faulty, reached, go_on, short, short_start, read, served, outset, default_depth, paper_course, all_under}
use Rattle.judge_spec.specs.Judged.{paper_text, ending, judged, after_fault}
use Rattle.judge_spec.specs.Alone.{RefusedAsJudged}
use Rattle.judge_spec.proofs.Alone.{paper-numbered, refused-as-judged}
use Rattle.judge_lib.specs.declared.papers.PaperFault.{PaperFault}
use Rattle.judge_lib.specs.Alone.{fault_at, fault_in, paper_fault}
use Rattle.times_spec.specs.declared.Times.{Times}
use Rattle.times_spec.specs.Refusal.{times_number}
use Rattle.times_spec.specs.Text.{times}
use Rattle.timing_spec.specs.Timed.{clocked, timed_course, timed_ending, timed}
use Rattle.faults_spec.specs.Faults.{sheet_fault, of_start, start_fault, times_course, times_fault}
use Rattle.faults_spec.specs.Claims.{told, SheetsAsJudged, StartsAsJudged, TimesAsTimed, NoneIsMissed, NoTimesAreMissed}

-- a paper's fault is what the judge tells, by the text that it lies in
judged-so : (s : Paper) (a : List ℕ) (room : ℕ) (x : Text) (n at : ℕ) → length_ok (length a) ≡ true → paper_course s ≡ faulty x n at
    → told (judged s a room).verdict ≡ fault_at x n at (paper_text x s a)
unfolding judged ending after_fault RefusedAsJudged
judged-so s a room x n at l e = rw (refused-as-judged s a x n at l e)

fault-so : (s : Paper) (x : Text) (n at : ℕ) → paper_course s ≡ faulty x n at → paper_fault s ≡ fault_at x n at (paper_text x s [])
unfolding paper_fault
fault-so s x n at e = rw e

-- ---- the sheet

module _ (s : List ℕ) (g : Beginning) (fits : short_start g ≡ reached tt) where
  too_long : length_ok (length s) ≡ false → paper_course (from s g) ≡ faulty text.Sheet 1 0
  unfolding paper_course short
  too_long l = rw (l, short)

  stopped : {n : ℕ} {r : List ℕ} → length_ok (length s) ≡ true → sheet s ≡ stop n r → paper_course (from s g) ≡ faulty text.Sheet n (length s - length r)
  unfolding paper_course short read
  stopped l e = rw (l, short, fits, e, read)

nothing-fits : short_start nothing ≡ reached tt
unfolding short_start
nothing-fits = refl

read-on : (s : List ℕ) {v : Tables × Program} {r : List ℕ} → length_ok (length s) ≡ true → sheet s ≡ on v r → (sheet_fault s).refused ≡ 0
unfolding sheet_fault paper_fault paper_course short read short_start outset
read-on s l e = rw (l, short, e, read)

module _ (s : Paper) (a : List ℕ) (room : ℕ) (l : length_ok (length a) ≡ true) (fits : short_start s.beginning ≡ reached tt) where
  both : (n at : ℕ) → paper_course s ≡ faulty text.Sheet n at → paper_course (nothing_up s.sheet) ≡ faulty text.Sheet n at
      → told (judged s a room).verdict ≡ sheet_fault s.sheet
  unfolding sheet_fault
  both n at e f = judged-so s a room text.Sheet n at l e ∙ sym (fault-so (nothing_up s.sheet) text.Sheet n at f)

  by_lines : length_ok (length s.sheet) ≡ true → (z : Run (Tables × Program)) → sheet s.sheet ≡ z → (sheet_fault s.sheet).refused ≢ 0
      → told (judged s a room).verdict ≡ sheet_fault s.sheet
  by_lines q (on v r) e h = absurd (h (read-on s.sheet q e))
  by_lines q (stop n r) e h = both n _ (stopped s.sheet s.beginning fits q e) (stopped s.sheet nothing nothing-fits q e)

pub sheets-as-judged : SheetsAsJudged
unfolding SheetsAsJudged
sheets-as-judged s a room l fits h =
    by-test (length_ok (length s.sheet))
    (λ q. by_lines s a room l fits q (sheet s.sheet) refl h)
    (λ q. both s a room l fits 1 0 (too_long s.sheet s.beginning fits q) (too_long s.sheet nothing nothing-fits q))

-- ---- the start

pub starts-as-judged : StartsAsJudged
unfolding StartsAsJudged start_fault paper_fault
starts-as-judged s a room l h = go (paper_course s) refl h
  where
    at-start : (x : Text) (n at : ℕ) → paper_course s ≡ faulty x n at → (of_start x (fault_at x n at (paper_text x s []))).refused ≢ 0
        → told (judged s a room).verdict ≡ of_start x (fault_at x n at (paper_text x s []))
    at-start text.Neither n at e h = absurd (h refl)
    at-start text.Sheet n at e h = absurd (h refl)
    at-start text.Answer n at e h = absurd (h refl)
    at-start text.Times n at e h = absurd (h refl)
    at-start text.Start n at e h = judged-so s a room text.Start n at l e

    go : (z : Course (Tables × Program × Configuration)) → paper_course s ≡ z → (of_start (fault_in s z).text (fault_in s z)).refused ≢ 0
        → told (judged s a room).verdict ≡ of_start (fault_in s z).text (fault_in s z)
    go (faulty x n at) e h = at-start x n at e h
    go (reached y) e h = absurd (h refl)

-- ---- the times

-- beside a paper and an answer that are read
module _ (s : Paper) (a x : List ℕ) (room : ℕ) {y : Tables × Program × Configuration × Answer} (e : all_under default_depth s a ≡ reached y) where
  times_long : length_ok (length x) ≡ false → told (timed s a x room).judgement.verdict ≡ times_fault x
  unfolding timed timed_ending timed_course clocked short after_fault times_fault times_course
  times_long l = rw (e, l, short)

  times-lines : length_ok (length x) ≡ true → (z : Run Times) → times x ≡ z → (times_fault x).refused ≢ 0 → told (timed s a x room).judgement.verdict ≡ times_fault x
  unfolding timed timed_ending timed_course clocked short read after_fault times_fault times_course
  times-lines l (on v r) f h = absurd (h (rw (l, short, f, read)))
  times-lines l (stop n r) f h = rw (e, l, short, f, read)

pub times-as-timed : TimesAsTimed
unfolding TimesAsTimed
times-as-timed s a x room y e h = by-test (length_ok (length x)) (λ l. times-lines s a x room e l (times x) refl h) (λ l. times_long s a x room e l)

-- ---- no fault is left

-- a fault of the start, or none
data OfStart {A : Type 0} : Course A → Type 0 where
  in_start : {n at : ℕ} → OfStart (faulty text.Start n at)
  goes_on : {y : A} → OfStart (reached y)

of-then : {A B : Type 0} {m : Course A} (f : A → Course B) → OfStart m → ((y : A) → OfStart (f y)) → OfStart (go_on m f)
of-then f in_start h = in_start
of-then f goes_on h = h _

short-of : (g : Beginning) → OfStart (short_start g)
unfolding short_start
short-of nothing = goes_on
short-of (given x) = by-test (start_length_ok (length x)) (λ e. rw (e, short_start) goes_on) (λ e. rw (e, short_start) in_start)

read_of : {A : Type 0} (m : Lines A) (x : List ℕ) → OfStart (read text.Start m x)
unfolding read
read_of {A} m x = go (m x) refl
  where
    go : (z : Run A) → m x ≡ z → OfStart (read text.Start m x)
    go (on v r) e = rw (e, read) goes_on
    go (stop n r) e = rw (e, read) in_start

served-of : (t : Tables) (p : Program) (y : Outset) → OfStart (served t p y)
unfolding served
served-of t p y = by-test (some_unserved t y.0) (λ e. rw (e, served) in_start) (λ e. rw (e, served) goes_on)

outset-of : (t : Tables) (p : Program) (g : Beginning) → OfStart (outset default_depth t p g)
unfolding outset
outset-of t p nothing = goes_on
outset-of t p (given x) = of-then _ (read_of _ x) (served-of t p)

-- beside a sheet that is read
paper-of : (s : Paper) {v : Tables × Program} {r : List ℕ} → length_ok (length s.sheet) ≡ true → sheet s.sheet ≡ on v r → OfStart (paper_course s)
unfolding paper_course short read
paper-of s {v} l e = rw (l, short, e, read) (of-then _ (short-of s.beginning) (λ _. of-then _ (outset-of v.0 v.1 s.beginning) (λ c. goes_on)))

start-number : (s : Paper) (x : Text) (n at : ℕ) → OfStart (paper_course s) → paper_course s ≡ faulty x n at → (start_fault s).refused ≡ n
unfolding start_fault paper_fault
start-number s x n at o e = go x n at (rw e at o) e
  where
    go : (x : Text) (n at : ℕ) → OfStart {A = Tables × Program × Configuration} (faulty x n at) → paper_course s ≡ faulty x n at → (start_fault s).refused ≡ n
    go x n at in_start e = rw e

sheet-number : (s : List ℕ) (n at : ℕ) → paper_course (nothing_up s) ≡ faulty text.Sheet n at → (sheet_fault s).refused ≡ n
unfolding sheet_fault
sheet-number s n at e = ap (λ (f : PaperFault). f.refused) (fault-so (nothing_up s) text.Sheet n at e)

pub none-is-missed : NoneIsMissed
unfolding NoneIsMissed
none-is-missed s x n at z w e =
    by-test (length_ok (length s.sheet)) (λ l. lines l (sheet s.sheet) refl)
    (λ l. let q : ◌≡◌ {A = ℕ} 1 0 = sym (sheet-number s.sheet 1 0 (too_long s.sheet nothing nothing-fits l)) ∙ z in absurd (omega (arith, q)))
  where
    lines : length_ok (length s.sheet) ≡ true → (y : Run (Tables × Program)) → sheet s.sheet ≡ y → ⊥
    lines l (on v r) f =
        let q : n ≡ 0 = sym (start-number s x n at (paper-of s l f) e) ∙ w in
        ⊎_elim (λ h. omega (arith, q, h.0)) (λ h. omega (arith, q, h)) (paper-numbered s x n at e).range
    lines l (stop m r) f =
        let q : m ≡ 0 = sym (sheet-number s.sheet m _ (stopped s.sheet nothing nothing-fits l f)) ∙ z in
        omega (arith, q, (sheet-stops s.sheet m r f).1)

times-number-up : (n : ℕ) → times_number n ≢ 0
unfolding times_number
times-number-up n z =
    by-test (eqb n 3) (λ a. let q : ◌≡◌ {A = ℕ} 41 0 = rw a at z in absurd (omega (arith, q)))
    (λ a. by-test (eqb n 4) (λ b. let q : ◌≡◌ {A = ℕ} 42 0 = rw (a, b) at z in absurd (omega (arith, q))) (λ b. let q : ◌≡◌ {A = ℕ} 40 0 = rw (a, b) at z in absurd (omega (arith, q))))

pub no-times-are-missed : NoTimesAreMissed
unfolding NoTimesAreMissed times_fault
no-times-are-missed x k n at z e = times-number-up n (rw e at z)
