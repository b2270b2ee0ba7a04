-- A list of steps and its text.
-- Assumes nothing.
use Prim.Native.Nat.{ℕ, zero, suc, ◌+◌, ◌≤◌, ◌<◌}
use mathlib.Core.List.{List, [], ◌∷◌, ◌++◌, append_assoc}
use mathlib.Core.Path.{◌≡◌, refl, sym, ap, ap₂, ◌∙◌}
use native.Mathlib.Omega.{arith}
use native.Mathlib.Nat.{zero-add}
use lib.ListN.{length, take, get_or, length-append}
use lib.Seq.{get_or-take, ext_get_or, length-take-le}
use borrow.Author.Tests.{lt-ltb, le-leb}
use Rattle.item_spec.specs.Reader.{bytes}
use Rattle.item_spec.specs.Write.{in_turn}
use Rattle.model.specs.declared.Step.{Step}
use Rattle.model.specs.declared.Answer.{Answer}
use Rattle.model.specs.Empty.{no_step}
use Rattle.model.specs.View.{steps_of}
use Rattle.model.proofs.View.{list_at, length-list}
use Rattle.report_spec.specs.Report.{count_text}
use Rattle.write_spec.specs.Kinds.{step_text, step_fault}
use Rattle.write_spec.specs.Texts.{step_row, answer_text, answer_fault, of_steps}
use Rattle.write_spec.specs.Cleared.{column, spoken_step, cleared_answer}
use Rattle.write_spec.specs.Round.{AnswersRoundTrip}
use Rattle.write_spec.specs.Steps.{SaidStep, Every, SaidSteps, StepsHaveTheirText, AnswersAreTheirTexts}
use Rattle.write_spec.proofs.Turns.{in_turn_from, turn-from, turn-same, first-none}
use Rattle.write_spec.proofs.Answer.{answer-steps}
use Rattle.write_spec.proofs.Trips.{answers-round-trip}

-- ---- every step
module _ (P : Step → Type 0) where
  pub every_of : (xs : List Step) → ((j : ℕ) → j < length xs → P (get_or xs j no_step)) → Every P xs
  unfolding Every
  every_of [] f = tt
  every_of (x ∷ xs) f = (f 0 (omega arith), every_of xs (λ j h. f (suc j) (omega arith)))

  pub every-at : (xs : List Step) → Every P xs → (j : ℕ) → j < length xs → P (get_or xs j no_step)
  unfolding Every
  every-at [] e j h = absurd (omega arith)
  every-at (x ∷ xs) (p, e) zero h = p
  every-at (x ∷ xs) (p, e) (suc j) h = every-at xs e j (omega arith)

  pub every-exchanged : (before after : List Step) (m n : Step) → Every P (before ++ m ∷ n ∷ after) → Every P (before ++ n ∷ m ∷ after)
  unfolding Every
  every-exchanged [] after m n (p, (q, e)) = (q, (p, e))
  every-exchanged (x ∷ before) after m n (p, e) = (p, every-exchanged before after m n e)

-- ---- the lines of a list
abbrev pub lines_of : List Step → List ℕ
lines_of xs = in_turn (λ j. step_text (get_or xs j no_step)) (length xs)

shifted : (f : ℕ → List ℕ) (n i : ℕ) → in_turn_from f n (suc i) ≡ in_turn_from (λ j. f (suc j)) n i
unfolding in_turn_from
shifted f zero i = refl
shifted f (suc n) i = ap (◌++◌ (f (suc i))) (shifted f n (suc i))

from_first : (f : ℕ → List ℕ) (n : ℕ) → in_turn f n ≡ in_turn_from f n 0
from_first f n = turn-from 0 f f (λ x. ap f (sym (zero-add x))) n

pub lines_cons : (x : Step) (xs : List Step) → lines_of (x ∷ xs) ≡ step_text x ++ lines_of xs
unfolding in_turn_from
lines_cons x xs =
    from_first (λ j. step_text (get_or (x ∷ xs) j no_step)) (suc (length xs))
    ∙ ap (◌++◌ (step_text x)) (shifted (λ j. step_text (get_or (x ∷ xs) j no_step)) (length xs) 0 ∙ sym (from_first (λ j. step_text (get_or xs j no_step)) (length xs)))

pub text-is : (xs : List Step) → answer_text (of_steps xs) ≡ count_text (bytes "answer=") 1 ++ (count_text (bytes "steps=") (length xs) ++ lines_of xs)
unfolding answer_text
text-is xs = refl

-- the length of a text hangs on the count of its steps and on the bytes of their lines
pub text-length : (ss us : List Step) → length ss ≡ length us → length (lines_of ss) ≡ length (lines_of us) → length (answer_text (of_steps ss)) ≡ length (answer_text (of_steps us))
unfolding answer_text
text-length ss us count lines =
    let head : ℕ → List ℕ = λ k. count_text (bytes "answer=") 1 ++ count_text (bytes "steps=") k in
    let whole : (xs : List Step) → length (answer_text (of_steps xs)) ≡ length (head (length xs)) + length (lines_of xs)
    = λ xs. ap length (sym (append_assoc (count_text (bytes "answer=") 1) (count_text (bytes "steps=") (length xs)) (lines_of xs))) ∙ length-append (head (length xs)) (lines_of xs) in
    whole ss ∙ ap₂ (λ (k l : ℕ). length (head k) + l) count lines ∙ sym (whole us)

lines-exchanged : (before after : List Step) (m n : Step) → length (lines_of (before ++ m ∷ n ∷ after)) ≡ length (lines_of (before ++ n ∷ m ∷ after))
lines-exchanged [] after m n =
    ap length (lines_cons m (n ∷ after) ∙ ap (◌++◌ (step_text m)) (lines_cons n after))
    ∙ two m n
    ∙ sym (ap length (lines_cons n (m ∷ after) ∙ ap (◌++◌ (step_text n)) (lines_cons m after)))
  where
    two : (x y : Step) → length (step_text x ++ (step_text y ++ lines_of after)) ≡ length (step_text y ++ (step_text x ++ lines_of after))
    two x y = simp length-append (omega arith)
lines-exchanged (x ∷ before) after m n =
    let e = lines-exchanged before after m n in
    ap length (lines_cons x (before ++ m ∷ n ∷ after)) ∙ length-append (step_text x) _ ∙ ap (λ (k : ℕ). length (step_text x) + k) e
    ∙ sym (ap length (lines_cons x (before ++ n ∷ m ∷ after)) ∙ length-append (step_text x) _)

pub exchanged-count : (before after : List Step) (m n : Step) → length (before ++ m ∷ n ∷ after) ≡ length (before ++ n ∷ m ∷ after)
exchanged-count before after m n = length-append before _ ∙ sym (length-append before _)

pub exchanged-length : (before after : List Step) (m n : Step) → length (answer_text (of_steps (before ++ m ∷ n ∷ after))) ≡ length (answer_text (of_steps (before ++ n ∷ m ∷ after)))
exchanged-length before after m n =
    text-length (before ++ m ∷ n ∷ after) (before ++ n ∷ m ∷ after) (exchanged-count before after m n) (lines-exchanged before after m n)

pub said-exchanged : (before after : List Step) (m n : Step) → SaidSteps (before ++ m ∷ n ∷ after) → SaidSteps (before ++ n ∷ m ∷ after)
said-exchanged before after m n s = record {
  few = omega (arith, s.few, exchanged-count before after m n);
  every = every-exchanged SaidStep before after m n s.every;
}

-- ---- a list that lines say
spoken-slots : (a : Answer) (j : ℕ) → a.count ≤ 1024 → j < a.count → step_row (cleared_answer a) j ≡ spoken_step (step_row a j)
unfolding cleared_answer column
spoken-slots a j l h = list_at 1024 _ no_step j (omega arith) ∙ rw (lt-ltb j a.count h)

said-slots : (a : Answer) → length (cleared_answer a).steps ≡ 1024
unfolding cleared_answer column
said-slots a = length-list 1024 _

said-back : (xs : List Step) → SaidSteps xs → take (length xs) (cleared_answer (of_steps xs)).steps ≡ xs
said-back xs s =
    let slots = (cleared_answer (of_steps xs)).steps in
    let long = length-take-le (length xs) slots (omega (arith, s.few, said-slots (of_steps xs))) in
    ext_get_or no_step (take (length xs) slots) xs long
    (λ j h. let l : j < length xs = omega arith in
    get_or-take (length xs) slots j no_step l ∙ spoken-slots (of_steps xs) j s.few l ∙ (every-at SaidStep xs s.every j l).1)

said-count : (a : Answer) → (cleared_answer a).count ≡ a.count
unfolding cleared_answer
said-count a = refl

pub steps-have-their-text : StepsHaveTheirText
unfolding StepsHaveTheirText AnswersRoundTrip answer_fault
steps-have-their-text xs s =
    let none = first-none (λ j. step_fault (step_row (of_steps xs) j)) (length xs) (λ j h. (every-at SaidStep xs s.every j h).0) in
    let fault : answer_fault (of_steps xs) ≡ 0 = rw (le-leb (length xs) 1024 s.few) none in
    let trip = answers-round-trip in
    let said = cleared_answer (of_steps xs) in
    (said, trip.written-is-read (of_steps xs) (trip.faultless-is-writable (of_steps xs) fault) fault, ap (λ (k : ℕ). take k said.steps) (said-count (of_steps xs)) ∙ said-back xs s)

-- ---- an answer that is read
pub listed : (a : Answer) → a.count ≤ length a.steps → answer_text a ≡ answer_text (of_steps (steps_of a))
unfolding answer_text
listed a l =
    rw (length-take-le a.count a.steps l)
    (ap (λ (lines : List ℕ). count_text (bytes "answer=") 1 ++ (count_text (bytes "steps=") a.count ++ lines))
    (turn-same (λ j. step_text (step_row a j)) (λ j. step_text (get_or (steps_of a) j no_step)) a.count (λ j h. ap step_text (sym (get_or-take a.count a.steps j no_step h)))))

pub answers-are-their-texts : AnswersAreTheirTexts
unfolding AnswersAreTheirTexts AnswersRoundTrip
answers-are-their-texts s r a q =
    let trip = answers-round-trip in
    let (none, text) = trip.read-is-written s r a q in
    let said = trip.read-is-said s r a q in
    let steps = answer-steps a none in
    let slots : length a.steps ≡ 1024 = ap (λ (y : Answer). length y.steps) (sym said) ∙ said-slots a in
    let long = length-take-le a.count a.steps (omega (arith, steps.few, slots)) in (
      record {
        few = omega (arith, long, steps.few);
        every = every_of SaidStep (steps_of a) (λ j h. let l : j < a.count = omega (arith, long) in
            rw (get_or-take a.count a.steps j no_step l)
            ((steps.step j l).none, sym (spoken-slots a j steps.few l) ∙ ap (λ (y : Answer). step_row y j) said));
      },
      text ∙ listed a (omega (arith, steps.few, slots)),
    )
