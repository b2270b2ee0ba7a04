-- The texts in their order: one too long, one refused at a line, all read; then the course.
-- Assumes nothing.
use Prim.Native.Nat.{ℕ, ◌-◌, ◌<◌, ◌≤◌, zero-le}
use mathlib.Core.List.{List}
use mathlib.Core.Bool.{Bool, true, false, true≢false}
use mathlib.Core.Path.{◌≡◌, refl, sym, ap, subst, ◌∙◌}
use mathlib.Core.Logic.{by_cases, ⊎_elim}
use Rattle.std.specs.Prelude.{Result, Ok, Err}
use Rattle.std.specs.Result.{IsErrAnd}
use native.Mathlib.Omega.{arith}
use native.Mathlib.Decide.{ℕ_discrete, dec_lt}
use borrow.Author.Tests.{le-leb, lt-leb, leb-true, ltb-true, ltb-false, le-ltb, lt-ltb, ne_eqb}
use lib.ListN.{length, length-take}
use Rattle.item_spec.proofs.Tests.{and_left, by-test}
use Rattle.model.specs.declared.Tables.{Tables}
use Rattle.model.specs.declared.Program.{Program}
use Rattle.model.specs.declared.Answer.{Answer}
use Rattle.model.specs.declared.Walked.{Walked}
use Rattle.model.specs.declared.Begun.{Begun}
use Rattle.model.specs.declared.Configuration.{Configuration}
use Rattle.model.specs.declared.Text.{Text}
use Rattle.model.specs.declared.Text.TheVariants as text
use Rattle.model.specs.Empty.{start, none_begun, no_tables, no_program, no_answer}
use Rattle.model.specs.View.{steps_of, begun_with}
use Rattle.read_spec.specs.Limits.{steps_ok, length_ok}
use Rattle.read_spec.specs.Lawful.{answer_lawful, Lawful, AnswersAreLawful, SheetsAreLawful}
use Rattle.read_spec.specs.Lines.{Run, Lines, on, stop, run_on}
use Rattle.read_spec.specs.Texts.{sheet, answer}
use Rattle.read_spec.proofs.Rests.{StopsAt}
use Rattle.read_spec.proofs.Lawful.{sheet-stops, sheet-begun, answer-stops, answers-are-lawful, sheets-are-lawful}
use Rattle.rules_spec.specs.PushB.{depth_of}
use Rattle.rules_spec.proofs.Tables.{facts}
use Rattle.rules_spec.specs.Walk.{walk_from}
use Rattle.rules_spec.proofs.Numbers.{WalkNumbers, walk-numbers}
use Rattle.read_chain.specs.declared.Place.{Place}
use Rattle.read_chain.specs.Whole.{Whole, outcome, whole, beside}
use Rattle.read_sheet.specs.Sheet.{sheet_read}
use Rattle.read_answer.specs.Answer.{answer_read}
use Rattle.start_spec.specs.Paper.{Beginning, nothing, given, Paper, start_bytes}
use Rattle.start_spec.specs.Text.{Outset, start_lines}
use Rattle.start_spec.specs.Served.{some_unserved}
use Rattle.start_spec.proofs.Proper.{start-stops}
use Rattle.read_start.specs.Start.{short_start as short_of, shown, start_run, start_read, came_to}
use Rattle.judge_spec.specs.Course.{Course, faulty, reached, go_on, ◌>>=◌, ◌>>◌, short, short_start, read, served, outset, default_depth, all_under, course}
use Rattle.judge_spec.specs.Next.{whole_course}
use Rattle.judge_spec.proofs.Read.{all-lawful, all_read}
use Rattle.judge_spec.proofs.Next.{course-from}
use Rattle.judge_spec.proofs.Room.{read_fits}
use Rattle.words.specs.Words.{state_in}
use Rattle.step_walk.specs.declared.Passed.{Passed}
use Rattle.step_walk.specs.Reached.{walked}
use Rattle.step_walk.specs.Fits.{PortsFit, LawfulPortsFit}
use Rattle.step_walk.specs.Held.{held_walk, HeldWalkIsTheWalk}
use Rattle.step_walk.proofs.Fits.{lawful-ports-fit}
use Rattle.step_walk.proofs.Held.{held-walk-is-the-walk}
use Rattle.judge_lib.specs.declared.pairs.TextFault.{TextFault}
use Rattle.judge_lib.specs.declared.pairs.Opened.{Opened}
use Rattle.judge_lib.specs.Came.{begin_read, answered, start_long, Outcome, refused_in, and_then, outcome_of, opened_as, came, report_in}
use Rattle.judge_lib.specs.Room.{Short}

-- ---- a fault that is passed on

pub passed-on : {A : Type 0} (r : Result A TextFault) (e : TextFault) → IsErrAnd r (λ y. y ≡ e) → r ≡ Err e
passed-on (Ok x) e h = absurd h
passed-on (Err y) e h = ap Err h

pub halts : {a : Outcome} (o : Outcome) {e : TextFault} → a ≡ Err e → Err e ≡ and_then a o
halts o h = rw h

pub goes-on : {a o q : Outcome} → a ≡ Ok tt → q ≡ o → q ≡ and_then a o
goes-on h k = rw h k

-- ---- the length of a text

pub long : (x : Text) (s : List ℕ) → 32768 < length s → short x s ≡ faulty x 1 0
unfolding short
long x s h = rw (lt-leb (length s) 32768 h, short)

pub not-long : (x : Text) (s : List ℕ) → length s ≤ 32768 → short x s ≡ reached tt
unfolding short
not-long x s h = rw (le-leb (length s) 32768 h, short)

-- ---- the lines of a text

-- what reading them came to: the number and the place of a fault, or 0 and what the text says
pub record TextRead {A : Type 0} (x : Text) (m : Lines A) (s : List ℕ) (refused place : ℕ) (value : A) : Type 0 where
  pub within : place ≤ length s
  pub faults : (refused ≡ 0 → ⊥) → read x m s ≡ faulty x refused place
  pub reaches : refused ≡ 0 → read x m s ≡ reached value

module _ {A : Type 0} (x : Text) (m : Lines A) (s : List ℕ) where
  pub went : {v : A} {r : List ℕ} → m s ≡ on v r → TextRead x m s 0 (length s - length r) v
  unfolding read
  went e = record { within = omega arith; faults = λ n. absurd (n refl); reaches = λ _. rw (e, read) }

  pub stopped : {n : ℕ} {r : List ℕ} {v : A} → m s ≡ stop n r → StopsAt s n r → TextRead x m s n (length s - length r) v
  unfolding read
  stopped e l = record { within = omega arith; faults = λ _. rw (e, read); reaches = λ z. absurd (omega (arith, z, l.1)) }

-- the same of what the reader answers, where the lines stop with 01's numbers
module _ {A : Type 0} (x : Text) (m : Lines A) (none : A) (s : List ℕ) (h : length s ≤ 32768) (stops : (n : ℕ) (r : List ℕ) → m s ≡ stop n r → StopsAt s n r) where
  pub whole-read : {r : Whole A} → r ≡ whole none m s → TextRead x m s r.refused r.place r.value
  unfolding whole
  whole-read is = rw (is, le-leb (length s) 32768 h, whole) (go (m s) refl)
    where
      go : (z : Run A) → m s ≡ z → (let r = outcome none s z in TextRead x m s r.refused r.place r.value)
      go (on v r) e = went x m s e
      go (stop n r) e = stopped x m s e (stops n r e)

-- ---- the texts in their order

-- a fault lies in its text
pub data Told {A : Type 0} (s : List ℕ) (g : Beginning) (a : List ℕ) : Course A → Type 0 where
  in-sheet : {n at : ℕ} → at ≤ length s → Told s g a (faulty text.Sheet n at)
  in_start : {n at : ℕ} → given (start_bytes g) ≡ g → at ≤ length (start_bytes g) → Told s g a (faulty text.Start n at)
  in-answer : {n at : ℕ} → at ≤ length a → Told s g a (faulty text.Answer n at)
  walks : {x : A} → Told s g a (reached x)

-- what the start's reader answered where a start isn't too long, z being what comes of it
pub record BeginsAs {B : Type 0} (z : Course B) (g : Beginning) (b : Whole B) : Type 0 where
  pub faults : (b.refused ≡ 0 → ⊥) → z ≡ faulty text.Start b.refused b.place
  pub up : (b.refused ≡ 0 → ⊥) → given (start_bytes g) ≡ g
  pub within : b.place ≤ length (start_bytes g)
  pub reaches : b.refused ≡ 0 → z ≡ reached b.value

-- of a sheet with no start beside it
abbrev pub unbegun : Whole (Unit {0})
unbegun = record { refused = 0; place = 0; value = tt }

pub begins-alone : BeginsAs (reached tt) nothing unbegun
begins-alone = record { faults = λ n. absurd (n refl); up = λ n. absurd (n refl); within = zero-le; reaches = λ _. refl }

start-long : (g : Beginning) → start_long g ≡ true → short_start g ≡ faulty text.Start 1 0
unfolding short_start
start-long nothing e = absurd (true≢false (sym e))
start-long (given x) e = rw (lt-leb (length x) 8192 (ltb-true 8192 (length x) e), short_start)

start-short : (g : Beginning) → start_long g ≡ false → short_start g ≡ reached tt
unfolding short_start
start-short nothing e = refl
start-short (given x) e = rw (le-leb (length x) 8192 (ltb-false 8192 (length x) e), short_start)

long-told : {A : Type 0} (s a : List ℕ) (g : Beginning) → start_long g ≡ true → Told {A = A} s g a (faulty text.Start 1 0)
long-told s a nothing e = absurd (true≢false (sym e))
long-told s a (given x) e = in_start refl zero-le

-- the start and the answer are read with what the sheet says
module _ {A B C D : Type 0} (m : Lines A) (begins : A → Course B) (next : A → Lines C) (all : A → B → C → D) (s : List ℕ) (g : Beginning) (a : List ℕ) where
  abbrev pub in_order : Course D
  in_order = do
    short text.Sheet s
    short_start g
    short text.Answer a
    u ← read text.Sheet m s
    v ← begins u
    w ← read text.Answer (next u) a
    reached (all u v w)

  -- of what the readers answered, r, b and y
  module _ (none : A) (nil : C) {r : Whole A} {b : Whole B} {y : Whole C} (is : r ≡ whole none m s)
      (begun : length s ≤ 32768 → start_long g ≡ false → r.refused ≡ 0 → BeginsAs (begins r.value) g b) (also : y ≡ whole nil (next r.value) a)
      (stops : (n : ℕ) (t : List ℕ) → m s ≡ stop n t → StopsAt s n t) (ends : (n : ℕ) (t : List ℕ) → next r.value a ≡ stop n t → StopsAt a n t) where
    abbrev comes : Outcome
    comes = outcome_of (length s) (opened_as r (start_long g) b) (length a) (answered y)

    abbrev said : D
    said = all r.value b.value y.value

    came-to : (o : Outcome) → comes ≡ o → came o (λ _. said) ≡ in_order → Told s g a (came o (λ _. said)) → (came comes (λ _. said) ≡ in_order) × Told s g a in_order
    came-to o e h t = (rw e h, subst (Told s g a) h t)

    -- the course is that of their outcome, and a fault lies in its text
    pub in_order_is : (came comes (λ _. said) ≡ in_order) × Told s g a in_order
    unfolding outcome_of
    in_order_is =
        by_cases (dec_lt 32768 (length s)) (λ h. came-to (refused_in text.Sheet 1 0) (rw (lt-ltb 32768 (length s) h)) (rw (long text.Sheet s h)) (in-sheet zero-le)) (λ h.
        let p : length s ≤ 32768 = omega arith in
        by-test (start_long g)
        (λ l. came-to (refused_in text.Start 1 0) (rw (le-ltb 32768 (length s) p, l)) (rw (not-long text.Sheet s p, start-long g l)) (long-told s a g l)) (λ l.
        by_cases (dec_lt 32768 (length a))
        (λ k. came-to (refused_in text.Answer 1 0) (rw (le-ltb 32768 (length s) p, l, lt-ltb 32768 (length a) k)) (rw (not-long text.Sheet s p, start-short g l, long text.Answer a k)) (in-answer zero-le)) (λ k.
        let q : length a ≤ 32768 = omega arith in
        let one = whole-read text.Sheet m none s p stops is in
        let three = whole-read text.Answer (next r.value) nil a q ends also in
        by_cases (ℕ_discrete r.refused 0) (λ e.
        let two = begun p l e in
        by_cases (ℕ_discrete b.refused 0) (λ f.
        by_cases (ℕ_discrete y.refused 0)
        (λ z. came-to (Ok tt) (rw (le-ltb 32768 (length s) p, l, le-ltb 32768 (length a) q, e, f, z)) (rw (not-long text.Sheet s p, start-short g l, not-long text.Answer a q, one.reaches e, two.reaches f, three.reaches z)) walks)
        (λ z. came-to (refused_in text.Answer y.refused y.place) (rw (le-ltb 32768 (length s) p, l, le-ltb 32768 (length a) q, e, f, ne_eqb _ 0 z)) (rw (not-long text.Sheet s p, start-short g l, not-long text.Answer a q, one.reaches e, two.reaches f, three.faults z)) (in-answer three.within)))
        (λ f. came-to (refused_in text.Start b.refused b.place) (rw (le-ltb 32768 (length s) p, l, le-ltb 32768 (length a) q, e, ne_eqb _ 0 f)) (rw (not-long text.Sheet s p, start-short g l, not-long text.Answer a q, one.reaches e, two.faults f)) (in_start (two.up f) two.within)))
        (λ e. came-to (refused_in text.Sheet r.refused r.place) (rw (le-ltb 32768 (length s) p, l, le-ltb 32768 (length a) q, ne_eqb _ 0 e)) (rw (not-long text.Sheet s p, start-short g l, not-long text.Answer a q, one.faults e)) (in-sheet one.within)))))

-- ---- a paper's texts

short-of : (x : List ℕ) → length x ≤ 8192 → short_of x ≡ on tt x
unfolding short_of
short-of x h = rw (le-leb (length x) 8192 h, short_of)

-- a program, and what had been pushed before its first line
abbrev pub begun_by : Program → Begun → Program
begun_by p x = begun_with p x.queue x.last

abbrev pub as_begun : Program → Whole (Configuration × Begun) → Whole (Program × Configuration)
as_begun p b = record { refused = b.refused; place = b.place; value = (begun_by p b.value.1, b.value.0) }

pub begin-read : (t : Tables) (p : Program) → Lawful t p → p.begun ≡ none_begun → (g : Beginning) → start_long g ≡ false → {b : Whole (Configuration × Begun)}
    → b ≡ begin_read p.edition (depth_of default_depth t) t g → BeginsAs (outset default_depth t p g) g (as_begun p b)
unfolding begin_read start_read start_run outset read served
begin-read t p law none nothing l e = rw e (record { faults = λ n. absurd (n refl); up = λ n. absurd (n refl); within = zero-le; reaches = λ _. alone })
  where
    alone : ◌≡◌ {A = Course (Program × Configuration)} (reached (p, start)) (reached (begun_by p none_begun, start))
    alone i = reached (record { edition = p.edition; begun = none i; instructions = p.instructions; count = p.count }, start)
begin-read t p law none (given x) l e =
    rw (e ∙ ap (λ (z : Run (Unit {0})). came_to t x (run_on z (λ _. start_lines p.edition (depth_of default_depth t) t))) (short-of x (ltb-false 8192 (length x) l)))
    (go (start_lines p.edition (depth_of default_depth t) t x) refl)
  where
    fifty : (y : Outset) (r : List ℕ) → start_lines p.edition (depth_of default_depth t) t x ≡ on y r → (q : Bool) → some_unserved t y.0 ≡ q
        → BeginsAs (outset default_depth t p (given x)) (given x) (as_begun p (elim q [ true ↦ record { refused = 50; place = 0; value = (start, none_begun) } | false ↦ record { refused = 0; place = length x - length r; value = shown y } ]))
    fifty y r f true q = record { faults = λ n. rw (f, read, q, served); up = λ n. refl; within = zero-le; reaches = λ z. absurd (omega (arith, z)) }
    fifty y r f false q = record { faults = λ n. absurd (n refl); up = λ n. refl; within = omega arith; reaches = λ z. rw (f, read, q, served) }

    go : (z : Run Outset) → start_lines p.edition (depth_of default_depth t) t x ≡ z → BeginsAs (outset default_depth t p (given x)) (given x) (as_begun p (came_to t x z))
    go (on y r) f = fifty y r f (some_unserved t y.0) refl
    go (stop n r) f =
        let l = start-stops default_depth t p x (omega arith) law n r f in
        record { faults = λ _. rw (f, read); up = λ _. refl; within = omega arith; reaches = λ z. absurd (omega (arith, z, l.1)) }

-- what a sheet says that is read is lawful, and its queues are short in any case
module _ (s : List ℕ) where
  pub sheet-law : length s ≤ 32768 → {r : Whole (Tables × Program)} → r ≡ sheet_read s → r.refused ≡ 0 → Lawful r.value.0 r.value.1
  unfolding whole SheetsAreLawful
  sheet-law h is = rw (is, le-leb (length s) 32768 h, whole) (go (sheet s) refl)
    where
      go : (z : Run (Tables × Program)) → sheet s ≡ z → (let r = outcome (no_tables, no_program) s z in r.refused ≡ 0 → Lawful r.value.0 r.value.1)
      go (on v r) e q = sheets-are-lawful s _ _ _ e
      go (stop n r) e q = let l = sheet-stops s n r e in absurd (omega (arith, q, l.1))

  pub sheet-none : length s ≤ 32768 → {r : Whole (Tables × Program)} → r ≡ sheet_read s → r.refused ≡ 0 → r.value.1.begun ≡ none_begun
  unfolding whole
  sheet-none h is = rw (is, le-leb (length s) 32768 h, whole) (go (sheet s) refl)
    where
      go : (z : Run (Tables × Program)) → sheet s ≡ z → (let r = outcome (no_tables, no_program) s z in r.refused ≡ 0 → r.value.1.begun ≡ none_begun)
      go (on v r) e q = sheet-begun s _ _ _ e
      go (stop n r) e q = let l = sheet-stops s n r e in absurd (omega (arith, q, l.1))

  pub depth-few : depth_of default_depth (sheet_read s).value.0 ≤ 8
  unfolding whole SheetsAreLawful no_tables
  depth-few =
      by-test (length_ok (length s)) (λ e. rw (e, whole) (go (sheet s) refl)) (λ e. rw (e, whole) (omega arith))
    where
      go : (z : Run (Tables × Program)) → sheet s ≡ z → depth_of default_depth (outcome (no_tables, no_program) s z).value.0 ≤ 8
      go (on v r) e = (facts default_depth v.0 v.1 (omega arith) (sheets-are-lawful s _ _ _ e)).depth
      go (stop n r) e = omega arith

module _ (s : Paper) (a : List ℕ) where
  module _ {r : Whole (Tables × Program)} {b : Whole (Configuration × Begun)} {y : Whole Answer} (is : r ≡ sheet_read s.sheet)
      (begins : b ≡ begin_read r.value.1.edition (depth_of default_depth r.value.0) r.value.0 s.beginning) (also : y ≡ answer_read a) where
    all-comes : (came (outcome_of (length s.sheet) (opened_as r (start_long s.beginning) b) (length a) (answered y)) (λ _. (r.value.0, begun_by r.value.1 b.value.1, b.value.0, y.value))
        ≡ all_under default_depth s a) × Told s.sheet s.beginning a (all_under default_depth s a)
    unfolding all_under
    all-comes =
        in_order_is sheet (λ x. outset default_depth x.0 x.1 s.beginning) (λ _. answer) (λ x c y. (x.0, c.0, c.1, y)) s.sheet s.beginning a (no_tables, no_program) no_answer
        {b = as_begun r.value.1 b} is
        (λ p l e. begin-read r.value.0 r.value.1 (sheet-law s.sheet p is e) (sheet-none s.sheet p is e) s.beginning l begins) also (sheet-stops s.sheet) (answer-stops a)

  pub all_told : Told s.sheet s.beginning a (all_under default_depth s a)
  all_told =
      (all-comes {r = sheet_read s.sheet} {b = begin_read (sheet_read s.sheet).value.1.edition (depth_of default_depth (sheet_read s.sheet).value.0) (sheet_read s.sheet).value.0 s.beginning}
      {y = answer_read a} refl refl refl).1

  -- of what was read into words
  pub outcome-comes : {o : Outcome} {w : Opened} {t : Tables} {p : Program} {c : Configuration} {x : Begun} {z : Place} {y : Answer} → o ≡ outcome_of (length s.sheet) w (length a) z
      → beside w.sheet (t, p) ≡ sheet_read s.sheet → w.long ≡ start_long s.beginning
      → beside w.start (c, x) ≡ begin_read p.edition (depth_of default_depth t) t s.beginning → beside z y ≡ answer_read a → came o (λ _. (t, begun_by p x, c, y)) ≡ all_under default_depth s a
  outcome-comes {w} {t} {p} {c} {x} {z} {y} e is l begins also =
      ap (λ (u : Outcome). came u (λ _. (t, begun_by p x, c, y))) (e ∙ ap (λ (q : Bool). outcome_of (length s.sheet) (record { sheet = w.sheet; long = q; start = w.start }) (length a) z) l)
      ∙ (all-comes {r = beside w.sheet (t, p)} {b = beside w.start (c, x)} {y = beside z y} is begins also).0

  -- the ports that a program names fit where its sheet is read
  pub ports-fit : (t : Tables) (p : Program) (c : Configuration) (y : Answer) → reached (t, p, c, y) ≡ all_under default_depth s a → PortsFit p
  unfolding Lawful LawfulPortsFit
  ports-fit t p c y e = lawful-ports-fit t.count p (all-lawful s a (t, p, c, y) (sym e)).0.1

  -- the course goes on with the walk of what they say, beside its program
  pub walk-goes : (t : Tables) (p : Program) (c : Configuration) (y : Answer) {w : Walked} → reached (t, p, c, y) ≡ all_under default_depth s a
      → w ≡ held_walk default_depth t p c (steps_of y) → reached (p, w) ≡ whole_course s a
  unfolding whole_course walk_from HeldWalkIsTheWalk
  walk-goes t p c y e f = rw (← e, f, held-walk-is-the-walk default_depth t p c (steps_of y) (ports-fit t p c y e))

  pub fault-goes : (x : Text) (n at : ℕ) → faulty x n at ≡ all_under default_depth s a → faulty x n at ≡ whole_course s a
  unfolding whole_course
  fault-goes x n at e = rw (← e)

  -- that walk alone
  pub came-course : {A : Type 0} (o : Result A TextFault) (f : A → Program × Walked) → came o f ≡ whole_course s a → came o (λ x. (f x).1) ≡ course s a
  came-course {A = A} o f e = left o ∙ course-from s a e
    where
      left : (o : Result A TextFault) → came o (λ x. (f x).1) ≡ go_on {A = Program × Walked} (came o f) (λ x. reached x.1)
      left (Err z) = refl
      left (Ok x) = refl

-- ---- what is known of a walk, and of a fault

-- a walk's number is 0 or from 10 to 38, and no more than 1,024 steps are accepted
pub walked-numbers : (s : Paper) (a : List ℕ) (w : Walked) → course s a ≡ reached w → WalkNumbers 1024 w
unfolding walk_from answer_lawful AnswersAreLawful
walked-numbers s a w e =
    let b = all_read s a w e in
    let y = b.steps in
    let n = walk-numbers default_depth b.tables b.program (steps_of y) b.begin in
    let few = leb-true y.count 1024 (and_left (steps_ok y.count) _ (answers-are-lawful a _ _ b.answer-is)) in
    rw b.walked (record { refused = n.refused; accepted = omega (arith, n.accepted, few, length-take y.count y.steps) })

-- so its number is a byte, and its report has room
pub small-number : (s : Paper) (a : List ℕ) (w : Walked) → course s a ≡ reached w → w.refused < 256
small-number s a w e = ⊎_elim (λ z. omega arith) (λ z. omega arith) (walked-numbers s a w e).refused.range

pub reached-short : (s : Paper) (a : List ℕ) (w : Passed) (ws : List ℕ) → reached (walked w (state_in ws)) ≡ course s a → Short w (report_in w ws)
reached-short s a w ws e = record { few = omega (arith, (read_fits s a _ (sym e)).0); small = small-number s a _ (sym e) }

pub told-then : {A B : Type 0} {s : List ℕ} {g : Beginning} {a : List ℕ} {m : Course A} (f : A → B) → Told s g a m → Told s g a (go_on m (λ x. reached (f x)))
told-then f (in-sheet h) = in-sheet h
told-then f (in_start q h) = in_start q h
told-then f (in-answer h) = in-answer h
told-then f walks = walks

pub course-told : (s : Paper) (a : List ℕ) → Told s.sheet s.beginning a (course s a)
unfolding course
course-told s a = told-then _ (all_told s a)
