-- The judge's course and the timed one, side by side: the same fault, or the same walk and then the times.
-- Assumes nothing.
use Prim.Native.Nat.{ℕ, ◌-◌, ◌≤◌}
use mathlib.Core.List.{List, ◌++◌}
use mathlib.Core.Path.{◌≡◌, refl, sym, ap, ◌∙◌}
use mathlib.Core.Logic.{inr}
use native.Mathlib.Omega.{arith}
use lib.Dec.{eqb}
use lib.ListN.{length, length-append}
use borrow.Author.Tests.{le-leb}
use Rattle.item_spec.specs.Reader.{bytes}
use Rattle.report_spec.specs.Report.{count_text, report}
use Rattle.report_spec.proofs.Bound.{count-le}
use Rattle.item_spec.proofs.Tests.{by-test}
use Rattle.model.specs.declared.Text.{Text}
use Rattle.model.specs.declared.Text.TheVariants as text
use Rattle.model.specs.declared.Tables.{Tables}
use Rattle.model.specs.declared.Program.{Program}
use Rattle.model.specs.declared.Walked.{Walked}
use Rattle.read_spec.specs.Limits.{length_ok}
use Rattle.read_spec.specs.Lines.{Run, Lines, on, stop}
use Rattle.read_spec.specs.Texts.{sheet, answer}
use Rattle.read_spec.proofs.Rests.{StopsAt}
use Rattle.read_spec.specs.Lawful.{Lawful, SheetsAreLawful}
use Rattle.read_spec.proofs.Lawful.{sheet-stops, answer-stops, sheets-are-lawful}
use Rattle.start_spec.specs.Paper.{Beginning, nothing, given, Paper}
use Rattle.start_spec.specs.Text.{Outset, start_length_ok}
use Rattle.start_spec.specs.Served.{some_unserved}
use Rattle.start_spec.proofs.Proper.{start-stops}
use Rattle.judge_spec.specs.Course.{Course, faulty, reached, go_on, short, short_start, served, outset, read, default_depth, all_under, course}
use Rattle.judge_spec.proofs.Read.{Numbered, low-number}
use Rattle.judge_spec.specs.Judged.{after_fault, after_walk, in_room, printing, printed}
use Rattle.judge_spec.proofs.Room.{read_fits}
use Rattle.times_spec.specs.Text.{times}
use Rattle.times_spec.proofs.Read.{times-stop}
use Rattle.timing_spec.specs.Mark.{mark_of, mark_after}
use Rattle.timing_spec.specs.Timed.{clocked, timed_course, marked_report, timed_ending, timed_printing, timed_printed}
use Rattle.timing_spec.specs.Same.{FaultsPrintTheSame, PrintsWithItsMark}

-- the numbers that a text is refused with
abbrev pub Few : ℕ → Type 0
Few n = Numbered n

-- one of the texts is refused, or it is read
data Stage {A : Type 0} (k : Text) : Course A → Type 0 where
  fails : {n at : ℕ} → Few n → Stage k (faulty k n at)
  passes : {a : A} → Stage k (reached a)

short-stage : (k : Text) (s : List ℕ) → Stage k (short k s)
unfolding short
short-stage k s = by-test (length_ok (length s)) (λ e. rw (e, short) passes) (λ e. rw (e, short) (fails {n = 1} (low-number 1 (omega arith))))

read-stage : {A : Type 0} (k : Text) (m : Lines A) (s : List ℕ) → ((n : ℕ) (r : List ℕ) → m s ≡ stop n r → StopsAt s n r) → Stage k (read k m s)
unfolding read
read-stage {A} k m s h = go (m s) refl
  where
    go : (z : Run A) → m s ≡ z → Stage {A = A} k (elim z [ on a r ↦ reached a | stop n r ↦ faulty k n (length s - length r) ])
    go (on a r) e = passes
    go (stop n r) e = let l = h n r e in fails {n = n} (low-number n (omega arith))

mark-le : (refused par clock : ℕ) → mark_after refused par clock ≤ 1000
unfolding mark_after mark_of
mark-le refused par clock =
    by-test (eqb refused 0)
    (λ e. rw (e, mark_after) (by-test (eqb clock 0) (λ f. rw (f, mark_of) (omega arith)) (λ f. rw (f, mark_of) (omega arith))))
    (λ e. rw (e, mark_after) (omega arith))

-- how the two courses end
pub data Alike : Course Walked → Course (Walked × ℕ) → Type 0 where
  in-sheet : {n at : ℕ} → Few n → Alike (faulty text.Sheet n at) (faulty text.Sheet n at)
  in-answer : {n at : ℕ} → Few n → Alike (faulty text.Answer n at) (faulty text.Answer n at)
  in_start : {n at : ℕ} → Few n → Alike (faulty text.Start n at) (faulty text.Start n at)
  in-times : {w : Walked} {n at : ℕ} → Few n → Alike (reached w) (faulty text.Times n at)
  marked : {w : Walked} {m : ℕ} → m ≤ 1000 → Alike (reached w) (reached (w, m))

-- the sheet, the start or the answer is refused, or all are read
data Pair {B : Type 0} : Course B → Type 0 where
  bad-sheet : {n at : ℕ} → Few n → Pair (faulty text.Sheet n at)
  bad-start : {n at : ℕ} → Few n → Pair (faulty text.Start n at)
  bad-answer : {n at : ℕ} → Few n → Pair (faulty text.Answer n at)
  said : {b : B} → Pair (reached b)

pair_then : {A B : Type 0} {k : Text} {m : Course A} (f : A → Course B) → ((n at : ℕ) → Few n → Pair {B = B} (faulty k n at)) → Stage k m → ((a : A) → Pair (f a)) → Pair (go_on m f)
pair_then f fault (fails {n} {at} l) h = fault n at l
pair_then f fault (passes {a}) h = h a

short-start-stage : (g : Beginning) → Stage text.Start (short_start g)
unfolding short_start
short-start-stage nothing = passes
short-start-stage (given x) = by-test (start_length_ok (length x)) (λ e. rw (e, short_start) passes) (λ e. rw (e, short_start) (fails {n = 1} (low-number 1 (omega arith))))

served-stage : (t : Tables) (p : Program) (y : Outset) → Stage text.Start (served t p y)
unfolding served
served-stage t p y = by-test (some_unserved t y.0) (λ e. rw (e, served) (fails {n = 50} (record { range = inr refl }))) (λ e. rw (e, served) passes)

stage_then : {A B : Type 0} {k : Text} {m : Course A} (f : A → Course B) → Stage k m → ((a : A) → Stage k (f a)) → Stage k (go_on m f)
stage_then f (fails l) h = fails l
stage_then f (passes {a}) h = h a

begins-stage : (t : Tables) (p : Program) → Lawful t p → (g : Beginning) → Stage text.Start (outset default_depth t p g)
unfolding outset
begins-stage t p law nothing = passes
begins-stage t p law (given x) = stage_then _ (read-stage text.Start _ x (start-stops default_depth t p x (omega arith) law)) (λ y. served-stage t p y)

sheet-read : {B : Type 0} (s : List ℕ) (f : Tables × Program → Course B) → ((x : Tables × Program) → Lawful x.0 x.1 → Pair (f x)) → Pair (go_on (read text.Sheet sheet s) f)
unfolding read SheetsAreLawful
sheet-read s f h = go (sheet s) refl
  where
    go : (z : Run (Tables × Program)) → sheet s ≡ z → Pair (go_on (elim z [ on a r ↦ reached a | stop n r ↦ faulty text.Sheet n (length s - length r) ]) f)
    go (on a r) e = h a (sheets-are-lawful s _ _ _ e)
    go (stop n r) e = let l = sheet-stops s n r e in bad-sheet {n = n} (low-number n (omega arith))

pair-told : (s : Paper) (a : List ℕ) → Pair (all_under default_depth s a)
unfolding all_under
pair-told s a =
    pair_then _ (λ _ _ l. bad-sheet l) (short-stage text.Sheet s.sheet) (λ _.
    pair_then _ (λ _ _ l. bad-start l) (short-start-stage s.beginning) (λ _.
    pair_then _ (λ _ _ l. bad-answer l) (short-stage text.Answer a) (λ _.
    sheet-read s.sheet _ (λ x law.
    pair_then _ (λ _ _ l. bad-start l) (begins-stage x.0 x.1 law s.beginning) (λ _.
    pair_then _ (λ _ _ l. bad-answer l) (read-stage text.Answer answer a (answer-stops a)) (λ _. said))))))

-- what comes after them
alike_then : {B : Type 0} {m : Course B} (f : B → Course Walked) (g : B → Course (Walked × ℕ)) → Pair m → ((b : B) → Alike (f b) (g b)) → Alike (go_on m f) (go_on m g)
alike_then f g (bad-sheet l) h = in-sheet l
alike_then f g (bad-start l) h = in_start l
alike_then f g (bad-answer l) h = in-answer l
alike_then f g (said {b}) h = h b

times-then : {A : Type 0} {w : Walked} {m : Course A} {g : A → Course (Walked × ℕ)} → Stage text.Times m → ((a : A) → Alike (reached w) (g a)) → Alike (reached w) (go_on m g)
times-then (fails l) h = in-times l
times-then (passes {a}) h = h a

pub courses-alike : (s : Paper) (a x : List ℕ) → Alike (course s a) (timed_course s a x)
unfolding course clocked timed_course
courses-alike s a x =
    alike_then _ _ (pair-told s a) (λ _.
    times-then (short-stage text.Times x) (λ _.
    times-then (read-stage text.Times times x (times-stop x)) (λ _. marked (mark-le _ _ _))))

-- ---- what the two print
module _ (s : Paper) (a x : List ℕ) where
  fault-prints : {k : Text} {n at : ℕ} {y : Course (Walked × ℕ)} → Alike (faulty k n at) y → timed_printing s a x y ≡ printing s a (faulty k n at)
  unfolding timed_printing timed_ending after_fault printing
  fault-prints (in-sheet l) = refl
  fault-prints (in_start l) = refl
  fault-prints (in-answer l) = refl

  same-walk : {z : Course Walked} {w : Walked} {m : ℕ} → Alike z (reached (w, m)) → (z ≡ reached w) × (m ≤ 1000)
  same-walk (marked l) = (refl, l)

pub faults-print-the-same : FaultsPrintTheSame
unfolding FaultsPrintTheSame timed_printed printed
faults-print-the-same s a x k n at e = rw e (fault-prints s a x (rw e at (courses-alike s a x)))

-- three texts that are read: the judge's walk, whose report and mark have room
pub all_read : (s : Paper) (a x : List ℕ) (w : Walked) (m : ℕ) → timed_course s a x ≡ reached (w, m) → (course s a ≡ reached w) × (length (marked_report w m) ≤ 8192)
unfolding marked_report
all_read s a x w m e =
    let (q, l) = same-walk s a x (rw e at (courses-alike s a x)) in
    (q, simp length-append (omega (arith, (read_fits s a w q).0, count-le (bytes "mark=") 3 m (omega arith))))

has_room : (room : ℕ) (w : Walked) (r a : List ℕ) → length r ≤ room → (in_room room w r a).bytes ≡ r
unfolding in_room after_walk
has_room room w r a l = rw (le-leb (length r) room l, in_room)

pub prints-with-its-mark : PrintsWithItsMark
unfolding PrintsWithItsMark timed_printed timed_printing timed_ending printed printing marked_report
prints-with-its-mark s a x w m e =
    let (q, l) = all_read s a x w m e in
    let k : length (report w) ≤ 8192 = omega (arith, (read_fits s a w q).0) in
    (q, rw (e, q) (has_room 8192 w (marked_report w m) a l ∙ ap (λ (r : List ℕ). r ++ count_text (bytes "mark=") m) (sym (has_room 8192 w (report w) a k))))
