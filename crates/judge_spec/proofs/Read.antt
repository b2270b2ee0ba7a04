-- What the texts come to: a fault with a number from 1 to 5, or 50, or the walk of what all say.
-- Assumes nothing.
use Prim.Native.Nat.{ℕ, ◌-◌, ◌≤◌}
use mathlib.Core.List.{List}
use mathlib.Core.Bool.{true, false}
use mathlib.Core.Path.{◌≡◌, refl}
use mathlib.Core.Logic.{◌⊎◌, inl, inr}
use native.Mathlib.Omega.{arith}
use lib.ListN.{length}
use Rattle.item_spec.proofs.Tests.{by-test}
use Rattle.model.specs.declared.Tables.{Tables}
use Rattle.model.specs.declared.Program.{Program}
use Rattle.model.specs.declared.Answer.{Answer}
use Rattle.model.specs.declared.Configuration.{Configuration}
use Rattle.model.specs.declared.Walked.{Walked}
use Rattle.model.specs.Empty.{start, none_begun}
use Rattle.model.specs.View.{begun_with}
use Rattle.model.specs.declared.Text.{Text}
use Rattle.model.specs.declared.Text.TheVariants as text
use Rattle.read_spec.specs.Limits.{length_ok, has_tickets}
use Rattle.read_spec.specs.Lines.{Run, Lines, on, stop}
use Rattle.read_spec.specs.Texts.{sheet, answer}
use Rattle.read_spec.proofs.Rests.{StopsAt}
use Rattle.read_spec.specs.Lawful.{program_lawful, Lawful, SheetsAreLawful}
use Rattle.read_spec.proofs.Lawful.{sheet-stops, answer-stops, sheets-are-lawful}
use Rattle.rules_spec.specs.PushB.{depth_of}
use Rattle.rules_spec.specs.Proper.{slot_limit}
use Rattle.rules_spec.specs.Walk.{walk_from}
use Rattle.start_spec.specs.Paper.{Beginning, nothing, given, Paper}
use Rattle.start_spec.specs.Text.{start_length_ok, Outset, start_lines}
use Rattle.start_spec.specs.Served.{some_unserved, FiftyExactly}
use Rattle.start_spec.specs.Permitted.{Permitted, MayBegin, TicketsFit, NothingUpMayBegin, StartsArePermitted, StartsFit, NothingUpFits}
use Rattle.start_spec.proofs.Fifty.{fifty-exactly}
use Rattle.start_spec.proofs.Proper.{starts-are-permitted, start-permitted, nothing-up-may-begin, start-stops}
use Rattle.start_spec.proofs.Fits.{starts_fit, nothing-up-fits}
use Rattle.judge_spec.specs.Course.{Course, faulty, reached, go_on, short, short_start, begun_from, served, outset, read, default_depth, all_under, course}

-- the numbers of a text's fault
pub record Numbered (n : ℕ) : Type 0 where
  pub range : ((1 ≤ n) × (n ≤ 5)) ⊎ (n ≡ 50)

pub low-number : (n : ℕ) → (1 ≤ n) × (n ≤ 5) → Numbered n
low-number n l = record { range = inl l }

-- a text is refused with one of the numbers N, or what is reached has P
pub data Ends {A : Type 0} (N : ℕ → Type 0) (P : A → Type 0) : Course A → Type 0 where
  faults : {x : Text} {n at : ℕ} → N n → Ends N P (faulty x n at)
  reaches : {a : A} → P a → Ends N P (reached a)

pub ends-then : {N : ℕ → Type 0} {A B : Type 0} {P : A → Type 0} {Q : B → Type 0} {m : Course A} (f : A → Course B) → Ends N P m → ((a : A) → P a → Ends N Q (f a))
    → Ends N Q (go_on m f)
ends-then f (faults l) g = faults l
ends-then f (reaches {a} p) g = g a p

-- the numbers N are 1 to 5, and maybe more
pub short-ends : {N : ℕ → Type 0} → ((n : ℕ) → (1 ≤ n) × (n ≤ 5) → N n) → (x : Text) (s : List ℕ) → Ends N (λ _. Unit {0}) (short x s)
unfolding short
short-ends low x s = by-test (length_ok (length s)) (λ e. rw (e, short) (reaches tt)) (λ e. rw (e, short) (faults {n = 1} (low 1 (omega arith))))

pub read-ends : {N : ℕ → Type 0} → ((n : ℕ) → (1 ≤ n) × (n ≤ 5) → N n) → {A : Type 0} (x : Text) (m : Lines A) (s : List ℕ)
    → ((n : ℕ) (r : List ℕ) → m s ≡ stop n r → StopsAt s n r) → Ends N (λ a. (r : List ℕ) × (m s ≡ on a r)) (read x m s)
unfolding read
read-ends {N} low {A} x m s h = go (m s) refl
  where
    go : (z : Run A) → m s ≡ z → Ends N (λ a. (r : List ℕ) × (m s ≡ on a r)) (elim z [ on a r ↦ reached a | stop n r ↦ faulty x n (length s - length r) ])
    go (on a r) e = reaches (r, e)
    go (stop n r) e = let l = h n r e in faults {n = n} (low n (omega arith))

pub short-start-ends : (g : Beginning) → Ends Numbered (λ _. Unit {0}) (short_start g)
unfolding short_start
short-start-ends nothing = reaches tt
short-start-ends (given x) = by-test (start_length_ok (length x)) (λ e. rw (e, short_start) (reaches tt)) (λ e. rw (e, short_start) (faults {n = 1} (low-number 1 (omega arith))))

-- where the walk of a sheet's program p begins, and the program as it is begun: nothing is up, or it is what the start's lines give and nothing is unserved
pub data Begun (d : ℕ) (t : Tables) (p : Program) : Beginning → Program × Configuration → Type 0 where
  empty : Begun d t p nothing (p, start)
  up : {x r : List ℕ} {y : Outset} → start_lines p.edition (depth_of d t) t x ≡ on y r → some_unserved t y.0 ≡ false → Begun d t p (given x) (begun_from p y, y.0)

served-ends : (d : ℕ) (t : Tables) (p : Program) (x r : List ℕ) (y : Outset) → start_lines p.edition (depth_of d t) t x ≡ on y r → Ends Numbered (Begun d t p (given x)) (served t p y)
unfolding served
served-ends d t p x r y e =
    by-test (some_unserved t y.0) (λ q. rw (q, served) (faults {n = 50} (record { range = inr refl }))) (λ q. rw (q, served) (reaches (up e q)))

pub begins-ends : (t : Tables) (p : Program) → Lawful t p → (g : Beginning) → Ends Numbered (Begun default_depth t p g) (outset default_depth t p g)
unfolding outset
begins-ends t p law nothing = reaches empty
begins-ends t p law (given x) =
    ends-then _ (read-ends low-number text.Start _ x (start-stops default_depth t p x (omega arith) law)) (λ y (r, e). served-ends default_depth t p x r y e)

-- the program as begun has the lines of the sheet's
pub begun-lawful : (t : Tables) (p : Program) → Lawful t p → (g : Beginning) (x : Program × Configuration) → Begun default_depth t p g x → Lawful t x.0
unfolding Lawful program_lawful
begun-lawful t p law _ _ empty = law
begun-lawful t p law _ _ (up e q) = law

pub begun-edition : (t : Tables) (p : Program) (g : Beginning) (x : Program × Configuration) → Begun default_depth t p g x → x.0.edition ≡ p.edition
begun-edition t p _ _ empty = refl
begun-edition t p _ _ (up e q) = refl

-- what is proper for a program is so, whatever it begins with
proper-begun : (t : Tables) (p : Program) (q l : List ℕ) (c : Configuration) → Permitted default_depth t p c → Permitted default_depth t (begun_with p q l) c
unfolding slot_limit
proper-begun t p q l c ok =
    let now = ok.proper in
    record {
      proper = record {
        each = λ i here. let o = now.each i here in
            record { kind = o.kind; marked = o.marked; running = o.running; ended = o.ended; disjoint = o.disjoint; short = o.short; queue = o.queue; tickets = o.tickets };
        connections = now.connections;
        few = now.few;
        done = now.done;
        instances-length = now.instances-length;
        queue-length = now.queue-length;
        servers-length = now.servers-length;
      };
      tidy = ok.tidy;
      first = ok.first;
    }

-- it is permitted, and every active use port is served
pub begun-permitted : (t : Tables) (p : Program) → Lawful t p → (g : Beginning) (x : Program × Configuration) → Begun default_depth t p g x → Permitted default_depth t x.0 x.1
unfolding StartsArePermitted
begun-permitted t p law _ _ empty = start-permitted default_depth t p
begun-permitted t p law _ _ (up {y = y} e q) = proper-begun t p y.0.queue y.1 y.0 (starts-are-permitted default_depth t p _ _ y (omega arith) law e)

pub begun-well : (t : Tables) (p : Program) → Lawful t p → (g : Beginning) (x : Program × Configuration) → Begun default_depth t p g x → MayBegin default_depth t x.0 x.1
unfolding FiftyExactly NothingUpMayBegin
begun-well t p law _ _ empty = nothing-up-may-begin default_depth t p
begun-well t p law _ _ (up {y = y} e q) = record { permitted = begun-permitted t p law _ _ (up e q); served = (fifty-exactly t y.0).0 q }

-- what had been pushed before the first instruction is what the start shows
pub begun-fits : (t : Tables) (p : Program) → Lawful t p → has_tickets p.edition ≡ true → p.begun ≡ none_begun → (g : Beginning) (x : Program × Configuration) → Begun default_depth t p g x
    → TicketsFit x.0 x.1
unfolding StartsFit NothingUpFits
begun-fits t p law has none _ _ empty = nothing-up-fits p none
begun-fits t p law has none _ _ (up {y = y} e q) = starts_fit default_depth t p _ _ y (omega arith) law has e

-- all texts are read, and w is the walk of what they say
pub record AllRead (s : Paper) (a : List ℕ) (w : Walked) : Type 0 where
  pub tables : Tables
  pub program : Program
  pub begin : Configuration
  pub steps : Answer
  pub sheet-program : Program
  pub sheet-rest : List ℕ
  pub answer-rest : List ℕ
  pub sheet-is : sheet s.sheet ≡ on (tables, sheet-program) sheet-rest
  pub begun : Begun default_depth tables sheet-program s.beginning (program, begin)
  pub answer-is : answer a ≡ on steps answer-rest
  pub whole : all_under default_depth s a ≡ reached (tables, program, begin, steps)
  pub walked : w ≡ walk_from default_depth tables program begin steps

-- what the texts say
pub record Said (s : Paper) (a : List ℕ) (x : Tables × Program × Configuration × Answer) : Type 0 where
  pub sheet-program : Program
  pub sheet-rest : List ℕ
  pub answer-rest : List ℕ
  pub sheet-is : sheet s.sheet ≡ on (x.0, sheet-program) sheet-rest
  pub begun : Begun default_depth x.0 sheet-program s.beginning (x.1, x.2)
  pub answer-is : answer a ≡ on x.3 answer-rest

all-ends : (s : Paper) (a : List ℕ) → Ends Numbered (Said s a) (all_under default_depth s a)
unfolding all_under SheetsAreLawful
all-ends s a =
    ends-then _ (short-ends low-number text.Sheet s.sheet) (λ _ _.
    ends-then _ (short-start-ends s.beginning) (λ _ _.
    ends-then _ (short-ends low-number text.Answer a) (λ _ _.
    ends-then _ (read-ends low-number text.Sheet sheet s.sheet (sheet-stops s.sheet)) (λ x (r, e).
    ends-then _ (begins-ends x.0 x.1 (sheets-are-lawful s.sheet _ _ _ e) s.beginning) (λ c b.
    ends-then _ (read-ends low-number text.Answer answer a (answer-stops a)) (λ y (q, f).
    reaches (record { sheet-program = x.1; sheet-rest = r; answer-rest = q; sheet-is = e; begun = b; answer-is = f })))))))

pub all_said : (s : Paper) (a : List ℕ) (x : Tables × Program × Configuration × Answer) → all_under default_depth s a ≡ reached x → Said s a x
all_said s a x e = told (rw e at (all-ends s a))
  where
    told : Ends Numbered (Said s a) (reached x) → Said s a x
    told (reaches h) = h

pub all-lawful : (s : Paper) (a : List ℕ) (x : Tables × Program × Configuration × Answer) → all_under default_depth s a ≡ reached x
    → Lawful x.0 x.1 × ((p : Program) × Begun default_depth x.0 p s.beginning (x.1, x.2))
unfolding SheetsAreLawful
all-lawful s a x e =
    let h = all_said s a x e in
    let law = sheets-are-lawful s.sheet _ _ _ h.sheet-is in
    (begun-lawful x.0 h.sheet-program law s.beginning (x.1, x.2) h.begun, (h.sheet-program, h.begun))

course-ends : (s : Paper) (a : List ℕ) → Ends Numbered (AllRead s a) (course s a)
unfolding course
course-ends s a = go (all_under default_depth s a) refl (all-ends s a)
  where
    go : (z : Course (Tables × Program × Configuration × Answer)) → all_under default_depth s a ≡ z → Ends Numbered (Said s a) z
        → Ends Numbered (AllRead s a) (go_on z (λ x. reached (walk_from default_depth x.0 x.1 x.2 x.3)))
    go _ e (faults l) = faults l
    go _ e (reaches {a = x} h) =
        reaches (record { tables = x.0; program = x.1; begin = x.2; steps = x.3; sheet-program = h.sheet-program; sheet-rest = h.sheet-rest; answer-rest = h.answer-rest; sheet-is = h.sheet-is; begun = h.begun; answer-is = h.answer-is; whole = e; walked = refl })

pub all_read : (s : Paper) (a : List ℕ) (w : Walked) → course s a ≡ reached w → AllRead s a w
all_read s a w e = told (rw e at (course-ends s a))
  where
    told : Ends Numbered (AllRead s a) (reached w) → AllRead s a w
    told (reaches b) = b

pub fault-numbered : (s : Paper) (a : List ℕ) (x : Text) (n at : ℕ) → course s a ≡ faulty x n at → Numbered n
fault-numbered s a x n at e = told (rw e at (course-ends s a))
  where
    told : Ends Numbered (AllRead s a) (faulty x n at) → Numbered n
    told (faults l) = l
