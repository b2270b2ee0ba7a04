-- Done in other words, and the paper's fault: where an answer of no steps gets none, no other does.
-- Assumes nothing.
use Prim.Native.Nat.{ℕ}
use mathlib.Core.Bool.{Bool, true}
use mathlib.Core.List.{List}
use mathlib.Core.Logic.{◌≢◌}
use mathlib.Core.Path.{◌≡◌, refl, ap, subst}
use native.Mathlib.Omega.{arith}
use borrow.Author.Tests.{eqb-true}
use lib.Dec.{eqb}
use lib.ListN.{length}
use Rattle.item_spec.proofs.Tests.{by-test}
use Rattle.model.specs.declared.Tables.{Tables}
use Rattle.model.specs.declared.Program.{Program}
use Rattle.model.specs.declared.Configuration.{Configuration}
use Rattle.model.specs.declared.Answer.{Answer}
use Rattle.model.specs.declared.Walked.{Walked}
use Rattle.model.specs.declared.Text.{Text}
use Rattle.model.specs.declared.Text.TheVariants as text
use Rattle.read_spec.specs.Limits.{length_ok}
use Rattle.read_spec.specs.Lines.{Run, on, stop}
use Rattle.read_spec.specs.Texts.{sheet, answer}
use Rattle.rules_spec.specs.Walk.{walk_from}
use Rattle.done_spec.specs.Done.{all_done, DoneExactly}
use Rattle.done_spec.proofs.Done.{done-exactly}
use Rattle.judge_spec.specs.Course.{Course, faulty, reached, go_on, short, short_start, outset, read, default_depth, all_under, course}
use Rattle.outcome_spec.specs.declared.Outcome.{Outcome}
use Rattle.outcome_spec.specs.declared.Outcome.TheVariants.{Done, Unfinished, Refused, Fault, OfPaper}
use Rattle.outcome_spec.specs.Outcome.{said_program, after_steps, fault_in, outcome_in, outcome_of}
use Rattle.outcome_spec.specs.Paper.{no_steps}
use Rattle.outcome_spec.specs.Claims.{DoneInWords, FaultsAreNotDone, NobodyBearsThePapersFault}

-- a number for each outcome, by which they are told apart
abbrev pub number : Outcome → ℕ
number Done = 0
number Unfinished = 1
number Refused = 2
number Fault = 3
number OfPaper = 4

-- ---- done

after-done : (n : ℕ) (b : Bool) → after_steps n b ≡ Done → (n ≡ 0) × (b ≡ true)
after-done n b e =
    by-test (eqb n 0)
    (λ q. by-test b (λ r. (eqb-true n 0 q, r)) (λ r. let z : ◌≡◌ {A = ℕ} 1 0 = rw (q, r) at (ap number e) in absurd (omega arith)))
    (λ q. let z : ◌≡◌ {A = ℕ} 2 0 = rw q at (ap number e) in absurd (omega arith))

pub done-in-words : DoneInWords
unfolding DoneInWords outcome_of DoneExactly
done-in-words s a w e =
    let p = said_program s.sheet in
    let exactly = done-exactly p w.configuration in (
      λ d. let f = after-done w.refused (all_done p w.configuration) (rw e at d) in (f.0, exactly.0 f.1),
      λ z d. rw (e, z, exactly.1 d),
    )

faults-not-done : (x : Text) → fault_in x ≢ Done
faults-not-done text.Neither e = let z : ◌≡◌ {A = ℕ} 4 0 = ap number e in absurd (omega arith)
faults-not-done text.Sheet e = let z : ◌≡◌ {A = ℕ} 4 0 = ap number e in absurd (omega arith)
faults-not-done text.Answer e = let z : ◌≡◌ {A = ℕ} 3 0 = ap number e in absurd (omega arith)
faults-not-done text.Times e = let z : ◌≡◌ {A = ℕ} 4 0 = ap number e in absurd (omega arith)
faults-not-done text.Start e = let z : ◌≡◌ {A = ℕ} 4 0 = ap number e in absurd (omega arith)

pub faults-are-not-done : FaultsAreNotDone
unfolding FaultsAreNotDone outcome_of
faults-are-not-done s a x n at e d = faults-not-done x (rw e at d)

-- ---- the paper's fault

pub after-mild : (n : ℕ) (b : Bool) → after_steps n b ≢ OfPaper
after-mild n b e =
    by-test (eqb n 0)
    (λ q. by-test b
    (λ r. let z : ◌≡◌ {A = ℕ} 0 4 = rw (q, r) at (ap number e) in absurd (omega arith))
    (λ r. let z : ◌≡◌ {A = ℕ} 1 4 = rw (q, r) at (ap number e) in absurd (omega arith)))
    (λ q. let z : ◌≡◌ {A = ℕ} 2 4 = rw q at (ap number e) in absurd (omega arith))

fault-mild : Fault ≢ OfPaper
fault-mild e = let z : ◌≡◌ {A = ℕ} 3 4 = ap number e in absurd (omega arith)

-- at fault or not, it is of the answer
data OfAnswer {A : Type 0} : Course A → Type 0 where
  fine : {a : A} → OfAnswer (reached a)
  at-fault : {n at : ℕ} → OfAnswer (faulty text.Answer n at)

short-answer : (a : List ℕ) → OfAnswer (short text.Answer a)
unfolding short
short-answer a = by-test (length_ok (length a)) (λ e. rw (e, short) fine) (λ e. rw (e, short) at-fault)

read_answer : (a : List ℕ) → OfAnswer (read text.Answer answer a)
unfolding read
read_answer a = go (answer a) refl
  where
    go : (z : Run Answer) → answer a ≡ z → OfAnswer (read text.Answer answer a)
    go (on y r) e = rw (e, read) fine
    go (stop n r) e = rw (e, read) at-fault

-- the texts in 02's order: the three lengths, the sheet, the start, the answer
module _ {B D : Type 0} (p : Program) (begins : Tables × Program → Course B) (all : Tables × Program → B → Answer → D) (walks : D → Walked) where
  abbrev rest : Course B → Tables × Program → Course Answer → Course D
  rest z t y = go_on z (λ b. go_on y (λ c. reached (all t b c)))

  abbrev outcome : Course D → Outcome
  outcome d = outcome_in p (go_on d (λ c. reached (walks c)))

  after-sheet : (z : Course B) (t : Tables × Program) {y : Course Answer} (other : Course Answer) → OfAnswer y → outcome (rest z t other) ≢ OfPaper → outcome (rest z t y) ≢ OfPaper
  after-sheet (faulty x n at) t other j h = h
  after-sheet (reached b) t other (fine {a = c}) h = after-mild (walks (all t b c)).refused (all_done p (walks (all t b c)).configuration)
  after-sheet (reached b) t other at-fault h = fault-mild

  abbrev in_order : Course (Unit {0}) → Course (Unit {0}) → Course (Unit {0}) → Course (Tables × Program) → Course Answer → Course D
  in_order u v w x y = go_on u (λ _. go_on v (λ _. go_on w (λ _. go_on x (λ t. rest (begins t) t y))))

  bears : (u v : Course (Unit {0})) {w : Course (Unit {0})} (x : Course (Tables × Program)) {y : Course Answer} (other : Course Answer) → OfAnswer w → OfAnswer y
      → outcome (in_order u v (reached tt) x other) ≢ OfPaper → outcome (in_order u v w x y) ≢ OfPaper
  bears (faulty k n at) v x other i j h = h
  bears (reached u) (faulty k n at) x other i j h = h
  bears (reached u) (reached v) x other at-fault j h = fault-mild
  bears (reached u) (reached v) (faulty k n at) other fine j h = h
  bears (reached u) (reached v) (reached t) other fine j h = after-sheet (begins t) t other j h

  -- where the other answer isn't too long
  bears-so : (u v : Course (Unit {0})) {w : Course (Unit {0})} (other_length : Course (Unit {0})) (x : Course (Tables × Program)) {y : Course Answer} (other : Course Answer)
      → other_length ≡ reached tt → OfAnswer w → OfAnswer y → outcome (in_order u v other_length x other) ≢ OfPaper → outcome (in_order u v w x y) ≢ OfPaper
  bears-so u v z x other e i j h = bears u v x other i j (subst (λ (z : Course (Unit {0})). outcome (in_order u v z x other) ≢ OfPaper) e h)

no-steps-short : short text.Answer no_steps ≡ reached tt
unfolding short no_steps
no-steps-short = refl

pub nobody-bears-the-papers-fault : NobodyBearsThePapersFault
unfolding NobodyBearsThePapersFault outcome_of course all_under
nobody-bears-the-papers-fault s a h =
    bears-so {B = Program × Configuration} {D = Tables × Program × Configuration × Answer} (said_program s.sheet) (λ x. outset default_depth x.0 x.1 s.beginning)
    (λ x b y. (x.0, b.0, b.1, y)) (λ z. walk_from default_depth z.0 z.1 z.2 z.3) (short text.Sheet s.sheet) (short_start s.beginning)
    (short text.Answer no_steps) (read text.Sheet sheet s.sheet) (read text.Answer answer no_steps) no-steps-short (short-answer a) (read_answer a) h
