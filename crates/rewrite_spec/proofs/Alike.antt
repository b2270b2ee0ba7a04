-- The rewritten sheet is read as the old one with the depth 4, and judged alike.
-- Assumes nothing.
use Prim.Native.Nat.{ℕ, ◌+◌, ◌-◌}
use mathlib.Core.Bool.{true, false, true≢false}
use mathlib.Core.List.{List, ◌∷◌, ◌++◌}
use mathlib.Core.Path.{◌≡◌, refl, sym, ap, subst, ◌∙◌}
use mathlib.Core.Logic.{◌⊎◌, inl, inr, ⊎_elim}
use native.Mathlib.Omega.{arith}
use lib.Dec.{eqb}
use lib.ListN.{length, take, drop, length-append}
use borrow.Author.Tests.{eqb-true, eq-eqb, ne_eqb}
use Rattle.item_spec.specs.Reader.{got, bytes, byte}
use Rattle.item_spec.specs.Write.{one_text, number_text, digits_in}
use Rattle.item_spec.proofs.Tests.{by-test, or-not}
use Rattle.model.specs.declared.Tables.{Tables}
use Rattle.model.specs.declared.Program.{Program}
use Rattle.model.specs.declared.Answer.{Answer}
use Rattle.model.specs.declared.Walked.{Walked}
use Rattle.model.specs.declared.Text.{Text}
use Rattle.model.specs.declared.Text.TheVariants as text
use Rattle.model.specs.declared.Configuration.{Configuration}
use Rattle.model.specs.View.{steps_of}
use Rattle.read_spec.specs.Limits.{length_ok, edition_ok, depth_ok, types_ok, program_ok}
use Rattle.read_spec.specs.Lines.{Run, on, stop, Lines, run_on, line, each, at_end}
use Rattle.item_spec.specs.Read.{key, one_form, number_from, digit}
use Rattle.read_spec.specs.Kinds.{edition_line, count_line_in, count_line}
use Rattle.read_spec.specs.Fill.{headed, program_of}
use Rattle.read_spec.specs.Texts.{type_lines, instruction_at, sheet, answer}
use Rattle.rules_spec.specs.PushB.{depth_of}
use Rattle.rules_spec.specs.Walk.{walk_from}
use Rattle.start_spec.specs.Paper.{Beginning, nothing, given, from}
use Rattle.start_spec.specs.Text.{Outset, start_length_ok, start_lines}
use Rattle.start_spec.specs.Served.{some_unserved}
use Rattle.judge_spec.specs.Course.{Course, faulty, reached, go_on, default_depth, short, read, short_start, served, outset, sheet_course, all_under, course_under, course}
use Rattle.judge_spec.specs.Judged.{ending, judged, printing, printed}
use Rattle.report_spec.specs.Report.{count_text}
use Rattle.write_spec.proofs.Took.{takes-edition, takes_count, not_on, on_value, run-then, line-then}
use Rattle.rewrite_spec.specs.Under.{judged_under, printed_under, UnderTheNewRule}
use Rattle.rewrite_spec.specs.Rewritten.{old_default, old_head, new_head, sheet_after, rewritten, NothingElseAltered, LengthStays, AnotherDepthUnchanged, RewrittenOnce, JudgedAlike}
use Rattle.rewrite_spec.proofs.Depth.{deep, walk_same, begins-deep, map_run, map_next, types-deep}

-- ---- what is read
-- the lines of a sheet that opens with e, of depth d, from its `types=` line on
tail : ℕ → ℕ → Lines (Tables × Program)
tail e d = λ s.
    run_on (line (count_line (bytes "types=") types_ok) s) λ n. λ s. run_on (each type_lines n 0 (headed d n) s) λ t. λ s. run_on (line (count_line (bytes "program=") program_ok) s) λ k. λ s.
    run_on (each (instruction_at e n) k 0 (program_of e k) s) λ p. λ s. run_on (at_end s) λ _. λ s. on (t, p) s

-- the sheets that there are
by-edition : (P : ℕ → Type 0) (e : ℕ) → edition_ok e ≡ true → P 1 → P 2 → P e
by-edition P e ok one two = by-test (eqb e 1) (λ q. subst P (sym (eqb-true e 1 q)) one) (λ q. subst P (sym (eqb-true e 2 (or-not (eqb e 1) _ ok q))) two)

old-head : (e : ℕ) → edition_ok e ≡ true → (x : List ℕ) → sheet (old_head e ++ x) ≡ tail e 0 x
unfolding sheet tail edition_line count_line_in key one_form number_from digit
old-head e ok x = by-edition (λ e. sheet (old_head e ++ x) ≡ tail e 0 x) e ok refl refl

new-head : (e : ℕ) → edition_ok e ≡ true → (x : List ℕ) → sheet (new_head e ++ x) ≡ tail e 4 x
unfolding sheet tail edition_line count_line_in key one_form number_from digit
new-head e ok x = by-edition (λ e. sheet (new_head e ++ x) ≡ tail e 4 x) e ok refl refl

-- a sheet of depth 0 that is read begins with its first two lines
deep-on : (d : ℕ) (m : Run Tables) {u : Tables} {r : List ℕ} → map_run (deep d) m ≡ on u r → u.depth ≡ d
unfolding map_run
deep-on d (on t s) q = ap (λ (t : Tables). t.depth) (sym (on_value q))
deep-on d (stop n s) q = absurd (not_on q)

pub begins : (s r : List ℕ) (t : Tables) (p : Program) → sheet s ≡ on (t, p) r → t.depth ≡ 0 → (e : ℕ) × (x : List ℕ) × (edition_ok e ≡ true) × (s ≡ old_head e ++ x)
unfolding sheet headed count_text one_text number_text digits_in
begins s r t p q z =
    line-then edition_line _ s q λ e s₁ e₁ q. line-then (count_line (bytes "depth=") depth_ok) _ s₁ q λ d s₂ e₂ q. line-then (count_line (bytes "types=") types_ok) _ s₂ q λ n s₃ e₃ q.
    run-then (each type_lines n 0 (headed d n) s₃) _ q λ u s₄ e₄ q. line-then (count_line (bytes "program=") program_ok) _ s₄ q λ k s₅ e₅ q.
    run-then (each (instruction_at e n) k 0 (program_of e k) s₅) _ q λ v s₆ e₆ q. run-then (at_end s₆) _ q λ _ s₇ e₇ q.
    let is : d ≡ 0 = sym (deep-on d (each type_lines n 0 (headed 0 n) s₃) (sym (types-deep d n 0 (headed 0 n) s₃) ∙ e₄)) ∙ ap (λ (x : Tables × Program). x.0.depth) (on_value q) ∙ z in
    let (from, ok) = takes-edition s e₁ in
    (e, s₂, ok, from ∙ by-edition (λ e. count_text (bytes "sheet=") e ++ s₁ ≡ old_head e ++ s₂) e ok (second s₁ s₂ d e₂ is 1) (second s₁ s₂ d e₂ is 2))
  where
    second : (s₁ s₂ : List ℕ) (d : ℕ) → count_line (bytes "depth=") depth_ok s₁ ≡ got d s₂ → d ≡ 0 → (e : ℕ) → (bytes "sheet=" ++ (byte "0" + e) ∷ bytes "\n" ++ s₁) ≡ old_head e ++ s₂
    second s₁ s₂ d q is e = ap (λ (l : List ℕ). bytes "sheet=" ++ (byte "0" + e) ∷ bytes "\n" ++ l) ((takes_count (bytes "depth=") depth_ok s₁ q).0 ∙ ap (λ (n : ℕ). bytes "depth=" ++ one_text n ++ s₂) is)

-- with the depth d in the tables
deeper : ℕ → Tables × Program → Tables × Program
deeper d y = (deep d y.0, y.1)

tail-deep : (e d : ℕ) (s : List ℕ) → tail e d s ≡ map_run (deeper d) (tail e 0 s)
unfolding tail map_run deeper headed
tail-deep e d s =
    map_next (deeper d) (line (count_line (bytes "types=") types_ok) s) _ _ λ n s.
    ap (λ (m : Run Tables). run_on m (after n)) (types-deep d n 0 (headed 0 n) s) ∙ rest n (each type_lines n 0 (headed 0 n) s)
  where
    after : ℕ → Tables → Lines (Tables × Program)
    after n t = λ s. run_on (line (count_line (bytes "program=") program_ok) s) λ k. λ s. run_on (each (instruction_at e n) k 0 (program_of e k) s) λ p. λ s. run_on (at_end s) λ _. λ s. on (t, p) s

    rest : (n : ℕ) (m : Run Tables) → run_on (map_run (deep d) m) (after n) ≡ map_run (deeper d) (run_on m (after n))
    rest n (on t s) =
        map_next (deeper d) (line (count_line (bytes "program=") program_ok) s) _ _ λ k s. map_next (deeper d) (each (instruction_at e n) k 0 (program_of e k) s) _ _ λ p s. map_next (deeper d) (at_end s) _ _ λ _ s. refl
    rest n (stop k s) = refl

-- the same sheet with the depth 4
rewritten-read : (e : ℕ) → edition_ok e ≡ true → (x r : List ℕ) (t : Tables) (p : Program) → sheet (old_head e ++ x) ≡ on (t, p) r → sheet (new_head e ++ x) ≡ on (deep 4 t, p) r
unfolding map_run deeper
rewritten-read e ok x r t p q = new-head e ok x ∙ tail-deep e 4 x ∙ ap (map_run (deeper 4)) (sym (old-head e ok x) ∙ q)

-- ---- what is judged
-- what comes after the sheet
answering : ℕ → Tables → Program → Beginning → List ℕ → Course Walked
answering d t p g a =
    go_on (short_start g) λ _. go_on (short text.Answer a) λ _. go_on (outset d t p g) λ x. go_on (read text.Answer answer a) λ y. reached (walk_from d t x.0 x.1 y)

short_on : (x : Text) (s : List ℕ) → length_ok (length s) ≡ true → short x s ≡ reached tt
unfolding short
short_on x s l = rw (l, short)

read-on : {A : Type 0} (x : Text) (m : Lines A) (s r : List ℕ) (y : A) → m s ≡ on y r → read x m s ≡ reached y
unfolding read
read-on x m s r y q = rw (q, read)

course-is : (d : ℕ) (s a r : List ℕ) (g : Beginning) (t : Tables) (p : Program) → length_ok (length s) ≡ true → sheet s ≡ on (t, p) r → course_under d (from s g) a ≡ answering d t p g a
unfolding all_under answering
course-is d s a r g t p l q =
    rw (short_on text.Sheet s l, read-on text.Sheet sheet s r (t, p) q) (go (short_start g) (short text.Answer a) (outset d t p g) (read text.Answer answer a))
  where
    go : (k : Course (Unit {0})) (m : Course (Unit {0})) (b : Course (Program × Configuration)) (n : Course Answer)
        → go_on (go_on k λ _. go_on m λ _. go_on b λ x. go_on n λ y. reached (t, x.0, x.1, y)) (λ (x : Tables × Program × Configuration × Answer). reached (walk_from d x.0 x.1 x.2 x.3))
        ≡ go_on k λ _. go_on m λ _. go_on b λ x. go_on n λ y. reached (walk_from d t x.0 x.1 y)
    go (faulty x k at) m b n = refl
    go (reached tt) (faulty x k at) b n = refl
    go (reached u) (reached v) (faulty x k at) n = refl
    go (reached u) (reached v) (reached c) (faulty x k at) = refl
    go (reached u) (reached v) (reached c) (reached y) = refl

-- beside a sheet that is read only the start and the answer can be at fault
data Later {A : Type 0} : Course A → Type 0 where
  in_start : {n at : ℕ} → Later (faulty text.Start n at)
  in-answer : {n at : ℕ} → Later (faulty text.Answer n at)
  reaches : {a : A} → Later (reached a)

later-then : {A B : Type 0} {m : Course A} (f : A → Course B) → Later m → ((a : A) → Later (f a)) → Later (go_on m f)
later-then f in_start h = in_start
later-then f in-answer h = in-answer
later-then f (reaches {a}) h = h a

later-length : (g : Beginning) → Later (short_start g)
unfolding short_start
later-length nothing = reaches
later-length (given x) = by-test (start_length_ok (length x)) (λ e. rw (e, short_start) reaches) (λ e. rw (e, short_start) in_start)

later-served : (t : Tables) (p : Program) (y : Outset) → Later (served t p y)
unfolding served
later-served t p y = by-test (some_unserved t y.0) (λ e. rw (e, served) in_start) (λ e. rw (e, served) reaches)

later-begins : (d : ℕ) (t : Tables) (p : Program) (g : Beginning) → Later (outset d t p g)
unfolding outset read
later-begins d t p nothing = reaches
later-begins d t p (given x) = go (start_lines p.edition (depth_of d t) t x)
  where
    go : (z : Run Outset) → Later (go_on (elim z as (λ _. Course Outset) [ on c r ↦ reached c | stop n r ↦ faulty text.Start n (length x - length r) ]) (served t p))
    go (on c r) = later-served t p c
    go (stop n r) = in_start

later-short : (a : List ℕ) → Later (short text.Answer a)
unfolding short
later-short a = by-test (length_ok (length a)) (λ e. rw (e, short) reaches) (λ e. rw (e, short) in-answer)

later-answer : (a : List ℕ) → Later (read text.Answer answer a)
unfolding read
later-answer a = go (answer a)
  where
    go : (z : Run Answer) → Later {A = Answer} (elim z [ on y r ↦ reached y | stop n r ↦ faulty text.Answer n (length a - length r) ])
    go (on y r) = reaches
    go (stop n r) = in-answer

later : (d : ℕ) (t : Tables) (p : Program) (g : Beginning) (a : List ℕ) → Later (answering d t p g a)
unfolding answering
later d t p g a =
    later-then _ (later-length g) (λ _.
    later-then _ (later-short a) (λ _.
    later-then _ (later-begins d t p g) (λ c. later-then _ (later-answer a) (λ y. reaches))))

-- so that the sheet's bytes aren't looked at
ends-alike : (s r a : List ℕ) (g : Beginning) (room : ℕ) {z : Course Walked} → Later z → ending (from r g) a room z ≡ ending (from s g) a room z
unfolding ending
ends-alike s r a g room in_start = refl
ends-alike s r a g room in-answer = refl
ends-alike s r a g room reaches = refl

prints-alike : (s r a : List ℕ) (g : Beginning) {z : Course Walked} → Later z → printing (from r g) a z ≡ printing (from s g) a z
unfolding printing
prints-alike s r a g in_start = refl
prints-alike s r a g in-answer = refl
prints-alike s r a g reaches = refl

-- what 0 stands for is the only difference
answered-alike : (d e x : ℕ) (t : Tables) (p : Program) (g : Beginning) (a : List ℕ) → depth_of d t ≡ depth_of e (deep x t) → answering d t p g a ≡ answering e (deep x t) p g a
unfolding answering walk_from
answered-alike d e x t p g a same = rw (begins-deep d e x t p same g) (go (short_start g) (short text.Answer a) (outset e (deep x t) p g) (read text.Answer answer a))
  where
    go : (k : Course (Unit {0})) (m : Course (Unit {0})) (b : Course (Program × Configuration)) (n : Course Answer)
        → (go_on k λ _. go_on m λ _. go_on b λ z. go_on n λ y. reached (walk_from d t z.0 z.1 y)) ≡ (go_on k λ _. go_on m λ _. go_on b λ z. go_on n λ y. reached (walk_from e (deep x t) z.0 z.1 y))
    go (faulty x k at) m b n = refl
    go (reached tt) (faulty x k at) b n = refl
    go (reached u) (reached v) (faulty x k at) n = refl
    go (reached u) (reached v) (reached c) (faulty x k at) = refl
    go (reached u) (reached v) (reached c) (reached y) = ap reached (walk_same d e x t same c.0 (steps_of y) c.1)

-- two sheets that are read, the second with the depth x
module _ (s r a s₀ r₀ : List ℕ) (g : Beginning) (t : Tables) (p : Program) (x : ℕ) (ls : length_ok (length s) ≡ true) (lr : length_ok (length r) ≡ true)
    (qs : sheet s ≡ on (t, p) s₀) (qr : sheet r ≡ on (deep x t, p) r₀) (same : depth_of old_default t ≡ depth_of default_depth (deep x t)) where
  courses : course_under default_depth (from r g) a ≡ answering old_default t p g a
  courses = course-is default_depth r a r₀ g (deep x t) p lr qr ∙ sym (answered-alike old_default default_depth x t p g a same)

  alike : ((room : ℕ) → judged_under default_depth (from r g) a room ≡ judged_under old_default (from s g) a room) × (printed_under default_depth (from r g) a ≡ printed_under old_default (from s g) a)
  unfolding judged_under printed_under
  alike = (
    λ room. ap (ending (from r g) a room) courses ∙ ends-alike s r a g room (later old_default t p g a) ∙ ap (ending (from s g) a room) (sym (course-is old_default s a s₀ g t p ls qs)),
    ap (printing (from r g) a) courses ∙ prints-alike s r a g (later old_default t p g a) ∙ ap (printing (from s g) a) (sym (course-is old_default s a s₀ g t p ls qs)),
  )

-- ---- the claims
record Came (s r : List ℕ) : Type 0 where
  t : Tables
  p : Program
  rest : List ℕ
  short-is : length_ok (length s) ≡ true
  sheet-is : sheet s ≡ on (t, p) rest
  text-is : sheet_after t.depth s ≡ r

not-reached : {A : Type 0} {x : Text} {n at : ℕ} {w : A} → faulty x n at ≡ reached w → ⊥
not-reached {x = x} {n = n} {at = at} {w = w} e = let z : ◌≡◌ {A = ℕ} 0 1 = cc in omega arith

reached-is : {A : Type 0} {a b : A} → reached a ≡ reached b → a ≡ b
reached-is {a = a} {b = b} e = cc

came : (s r : List ℕ) → rewritten s ≡ reached r → Came s r
unfolding rewritten sheet_course short read
came s r q = by-test (length_ok (length s)) (λ l. go l (sheet s) refl (rw (l, short) at q)) (λ l. absurd (not-reached (rw (l, short) at q)))
  where
    go : length_ok (length s) ≡ true → (m : Run (Tables × Program)) → sheet s ≡ m
        → go_on (elim m [ on y q ↦ reached y | stop n q ↦ faulty text.Sheet n (length s - length q) ]) (λ (y : Tables × Program). reached (sheet_after y.0.depth s)) ≡ reached r → Came s r
    go l (on y q) e w = record { t = y.0; p = y.1; rest = q; short-is = l; sheet-is = e; text-is = reached-is w }
    go l (stop n q) e w = absurd (not-reached w)

-- the two cases
module _ (s r : List ℕ) (c : Came s r) where
  as_it_was : eqb c.t.depth 0 ≡ false → r ≡ s
  as_it_was e = sym c.text-is ∙ rw e

  anew : eqb c.t.depth 0 ≡ true → (e : ℕ) × (x : List ℕ) × (edition_ok e ≡ true) × (s ≡ old_head e ++ x) × (r ≡ new_head e ++ x)
  anew e =
      let (h, x, ok, q) = begins s c.rest c.t c.p c.sheet-is (eqb-true _ 0 e) in
      (h, x, ok, q, sym c.text-is ∙ rw e (ap (λ (l : List ℕ). take 14 l ++ byte "4" ∷ drop 15 l) q))

pub nothing-else-altered : NothingElseAltered
unfolding NothingElseAltered
nothing-else-altered s r q = let c = came s r q in by-test (eqb c.t.depth 0) (λ e. let (h, x, ok, old, new) = anew s r c e in inr (h, x, old, new)) (λ e. inl (as_it_was s r c e))

pub judged-alike : JudgedAlike
unfolding JudgedAlike
judged-alike s r a g q = let c = came s r q in by-test (eqb c.t.depth 0) (new c) (old c)
  where
    new : (c : Came s r) → eqb c.t.depth 0 ≡ true → ((room : ℕ) → judged_under default_depth (from r g) a room ≡ judged_under old_default (from s g) a room) × (printed_under default_depth (from r g) a ≡ printed_under old_default (from s g) a)
    new c e =
        let (h, x, ok, is, anew) = anew s r c e in
        alike s r a c.rest c.rest g c.t c.p 4 c.short-is (rw anew (rw is at c.short-is)) c.sheet-is (rw anew (rewritten-read h ok x c.rest c.t c.p (rw is at c.sheet-is))) (rw e)

    old : (c : Came s r) → eqb c.t.depth 0 ≡ false → ((room : ℕ) → judged_under default_depth (from r g) a room ≡ judged_under old_default (from s g) a room) × (printed_under default_depth (from r g) a ≡ printed_under old_default (from s g) a)
    old c e =
        let same = as_it_was s r c e in
        alike s r a c.rest c.rest g c.t c.p c.t.depth c.short-is (rw same c.short-is) c.sheet-is (rw same c.sheet-is) (rw e)

pub length-stays : LengthStays
unfolding LengthStays NothingElseAltered
length-stays s r q = ⊎_elim (ap length) (λ (e, x, old, new). ap length new ∙ simp length-append refl ∙ sym (ap length old)) (nothing-else-altered s r q)

pub another-depth-unchanged : AnotherDepthUnchanged
unfolding AnotherDepthUnchanged rewritten
another-depth-unchanged s t p q n = rw (q, ne_eqb t.depth 0 n)

-- a sheet that is read
reads : (s r : List ℕ) (t : Tables) (p : Program) → length_ok (length s) ≡ true → sheet s ≡ on (t, p) r → sheet_course s ≡ reached (t, p)
unfolding sheet_course
reads s r t p l q = rw (short_on text.Sheet s l, read-on text.Sheet sheet s r (t, p) q)

pub rewritten-once : RewrittenOnce
unfolding RewrittenOnce AnotherDepthUnchanged
rewritten-once s r q = let c = came s r q in by-test (eqb c.t.depth 0) (new c) (old c)
  where
    new : (c : Came s r) → eqb c.t.depth 0 ≡ true → rewritten r ≡ reached r
    new c e =
        let (h, x, ok, is, new) = anew s r c e in
        another-depth-unchanged r (deep 4 c.t) c.p
        (reads r c.rest (deep 4 c.t) c.p (rw new (rw is at c.short-is)) (rw new (rewritten-read h ok x c.rest c.t c.p (rw is at c.sheet-is))))
        (λ z. omega (arith, z))

    old : (c : Came s r) → eqb c.t.depth 0 ≡ false → rewritten r ≡ reached r
    old c e =
        let same = as_it_was s r c e in
        rw same (another-depth-unchanged s c.t c.p (reads s c.rest c.t c.p c.short-is c.sheet-is) (λ z. true≢false (sym (eq-eqb c.t.depth 0 z) ∙ e)))

pub under-the-new-rule : UnderTheNewRule
unfolding UnderTheNewRule judged_under judged printed_under printed course
under-the-new-rule s a = (λ room. refl, refl)
