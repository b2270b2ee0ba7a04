-- The answer's text: read as what it says or refused with its number, what was read is written as it was, and lawful is just what has no fault.
-- Assumes nothing.
use Prim.Native.Nat.{ℕ, zero, suc, ◌+◌, ◌^◌, ◌≤◌, ◌<◌}
use mathlib.Core.Bool.{Bool, true, false, not, ◌&&◌, ◌||◌, cond}
use mathlib.Core.Logic.{◌≢◌, by_cases}
use mathlib.Core.List.{List, ◌++◌, append-nil}
use mathlib.Core.Path.{◌≡◌, refl, sym, ap, ◌∙◌}
use native.Mathlib.Omega.{arith}
use native.Mathlib.Decide.{ℕ_discrete}
use lib.Dec.{eqb, leb, ltb}
use lib.ListN.{length, length-append}
use borrow.Author.Tests.{leb-true, eqb-true, le-leb, eq-eqb, ne_eqb}
use Rattle.sets.specs.Test.{all_below}
use Rattle.sets.proofs.Laws.{all-at, all_of}
use Rattle.item_spec.specs.Reader.{bytes}
use Rattle.item_spec.specs.Write.{in_turn, one_text, two_text}
use Rattle.item_spec.proofs.Tests.{by-test, and_left, and_right, or-not}
use Rattle.model.specs.declared.Step.{Step}
use Rattle.model.specs.declared.Answer.{Answer}
use Rattle.model.specs.Empty.{no_step, no_answer}
use Rattle.model.specs.Verb.{next_verb, fire_verb, end_verb, enter_verb, finish_verb}
use Rattle.read_spec.specs.Limits.{steps_ok, id_ok, place_ok, transition_ok}
use Rattle.read_spec.specs.Lines.{on, each, at_end}
use Rattle.read_spec.specs.Kinds.{due_line, count_line, step_line}
use Rattle.read_spec.specs.Fill.{answer_of, with_step}
use Rattle.read_spec.specs.Texts.{step_at, answer}
use Rattle.read_spec.specs.Lawful.{step_lawful, answer_lawful}
use Rattle.read_spec.proofs.Slots.{step_slots, steps-sound}
use Rattle.rules_spec.specs.Refusal.{◌⇒◌∣◌, or_number}
use Rattle.report_spec.specs.Report.{count_text}
use Rattle.report_spec.proofs.Sums.{length-in_turn, sum-le}
use Rattle.report_spec.proofs.Widths.{number-le}
use Rattle.report_spec.proofs.Bound.{count-le}
use Rattle.write_spec.specs.Kinds.{limit_fault, step_text, step_fault}
use Rattle.write_spec.specs.Texts.{first_of, step_row, answer_text, answer_fault}
use Rattle.write_spec.specs.Buffer.{write_number}
use Rattle.write_spec.specs.Cleared.{column, spoken_step, cleared_answer}
use Rattle.write_spec.specs.Round.{Digits, DigitsOfStep, HeldSteps, AnswersAreShort, OneNeverOfAnswers}
use Rattle.write_spec.proofs.Turns.{or-zero, or_some, or-both, first-none, first-zero, limit-met}
use Rattle.write_spec.proofs.Says.{Says, says-line, says_map, says_all, Ends, ends-then, ends-here}
use Rattle.write_spec.proofs.Written.{says-due, says-count}
use Rattle.write_spec.proofs.Verbs.{says-step}
use Rattle.write_spec.proofs.Columns.{column-none, column-set, up_none, up_next}
use Rattle.write_spec.proofs.Took.{takes-due, takes_count, takes_step, takes_all, end_back, on_value, run-then, line-then}

-- ---- as it is written
module _ (a : Answer) (held : HeldSteps a) where
  abbrev answer_to : ℕ → Answer
  answer_to j = record { steps = column 1024 (λ r. ltb r j) no_step (λ r. spoken_step (step_row a r)); count = a.count }

  step-turn : (j : ℕ) → j < a.count → Says (step_at j (answer_to j)) (step_text (step_row a j)) (step_fault (step_row a j)) (answer_to (suc j))
  unfolding step_at with_step
  step-turn j h =
      says_map step_line _ (ap (λ (xs : List Step). record { steps = xs; count = a.count }) (column-set 1024 no_step (λ r. spoken_step (step_row a r)) _ _ j (up_next j)))
      (says-step (step_row a j) (held.step j h))

  steps-say : Says (each step_at a.count 0 (answer_of a.count)) (in_turn (λ j. step_text (step_row a j)) a.count) (first_of (λ j. step_fault (step_row a j)) a.count) (cleared_answer a)
  unfolding cleared_answer answer_of no_answer
  steps-say =
      says_all step_at (λ j. step_text (step_row a j)) (λ j. step_fault (step_row a j)) answer_to a.count step-turn (answer_of a.count)
      (ap (λ (xs : List Step). record { steps = xs; count = a.count }) (column-none 1024 no_step (λ r. spoken_step (step_row a r)) (λ r. ltb r 0) up_none))

  pub answer-says : Ends answer (answer_text a) (answer_fault a) (cleared_answer a)
  unfolding answer answer_text answer_fault
  answer-says =
      ends-then _ _ (count_text (bytes "answer=") 1) _ 0 _ tt _ (says-line _ (says-due (bytes "answer=") 1 (omega arith))) λ _.
      ends-then _ _ (count_text (bytes "steps=") a.count) _ (limit_fault (steps_ok a.count)) _ a.count _ (says-line _ (says-count (bytes "steps=") steps_ok a.count held.count)) λ _.
      ends-here _ (λ y. y) steps-say

-- ---- as it was read
answer-made : (v : Answer) (s s₁ s₂ : List ℕ) → s ≡ count_text (bytes "answer=") 1 ++ s₁ → s₁ ≡ count_text (bytes "steps=") v.count ++ s₂
    → s₂ ≡ in_turn (λ j. step_text (step_row v j)) v.count → s ≡ answer_text v
unfolding answer_text
answer-made v s s₁ s₂ a b c = rw (a, b, c)

pub answer-taken : (s r : List ℕ) (a : Answer) → answer s ≡ on a r → s ≡ answer_text a
unfolding answer answer_of no_answer step_at
answer-taken s r a q =
    line-then (due_line (bytes "answer=") 1) _ s q λ _ s₁ e₁ q. line-then (count_line (bytes "steps=") steps_ok) _ s₁ q λ k s₂ e₂ q.
    let (x₂, lk) = takes_count (bytes "steps=") steps_ok s₁ e₂ in
    let hk : k ≤ 1024 = leb-true k 1024 lk in
    run-then (each step_at k 0 (answer_of k) s₂) _ q λ v s₃ e₃ q. run-then (at_end s₃) _ q λ _ s₄ e₄ q.
    let lines = takes_all (step_slots k) (steps-sound k) step_line step_text takes_step k (answer_of k) v s₂ s₃ hk (refl, refl) e₃ in
    rw (← on_value q)
    (answer-made v s s₁ s₂ (takes-due (bytes "answer=") 1 s e₁) (rw lines.sized.1 x₂) (rw lines.sized.1 (lines.is ∙ rw (end_back s₃ e₄) (append-nil _))))

-- ---- its rules
pub record ToldStep (x : Step) : Type 0 where
  pub none : step_fault x ≡ 0
  pub digits : DigitsOfStep (spoken_step x)

ids : (a : ℕ) → id_ok a ≡ true → Digits a
ids a e = omega (arith, leb-true a 31 e)

-- what a move must meet beside its id
abbrev others : Step → Bool
others x = cond (eqb x.verb fire_verb || eqb x.verb enter_verb) (place_ok x.number) (cond (eqb x.verb end_verb) (transition_ok x.number) (eqb x.verb finish_verb))

pub told-step : (x : Step) → step_lawful x ≡ true → ToldStep x
unfolding step_lawful step_fault spoken_step
told-step x e =
    let z : Digits 0 = omega arith in
    by-test (eqb x.verb next_verb) (λ a. record { none = rw a; digits = rw a (z, z) })
    λ a. let h = or-not (eqb x.verb next_verb) _ e a in
    let id = and_left (id_ok x.id) _ h in
    let rest = and_right (id_ok x.id) (others x) h in
    by-test (eqb x.verb fire_verb || eqb x.verb enter_verb)
    (λ b. let p = rw b at rest in record { none = rw (a, b, id, p); digits = rw (a, not-finish b) (ids x.id id, omega (arith, leb-true x.number 15 p)) })
    λ b. by-test (eqb x.verb end_verb)
    (λ c. let p = rw (b, c) at rest in record { none = rw (a, b, c, id, p); digits = rw (a, end-not-finish c) (ids x.id id, omega (arith, leb-true x.number 31 p)) })
    λ c. let f = rw (b, c) at rest in record { none = rw (a, b, c, f, id); digits = rw (a, f) (ids x.id id, z) }
  where
    not-finish : (eqb x.verb fire_verb || eqb x.verb enter_verb) ≡ true → eqb x.verb finish_verb ≡ false
    not-finish b =
        by-test (eqb x.verb fire_verb) (λ k. rw (eqb-true x.verb fire_verb k)) (λ k. rw (eqb-true x.verb enter_verb (or-not (eqb x.verb fire_verb) _ b k)))

    end-not-finish : eqb x.verb end_verb ≡ true → eqb x.verb finish_verb ≡ false
    end-not-finish c = rw (eqb-true x.verb end_verb c)

pub step-lawful : (x : Step) → step_fault x ≡ 0 → step_lawful x ≡ true
unfolding step_lawful step_fault
step-lawful x e =
    by-test (eqb x.verb next_verb) (λ a. rw a)
    λ a. by-test (eqb x.verb fire_verb || eqb x.verb enter_verb)
    (λ b. let h = limit-met (id_ok x.id && place_ok x.number) (rw (a, b) at e) in rw (a, and_left (id_ok x.id) (place_ok x.number) h, b) (and_right (id_ok x.id) (place_ok x.number) h))
    λ b. by-test (eqb x.verb end_verb)
    (λ c. let h = limit-met (id_ok x.id && transition_ok x.number) (rw (a, b, c) at e) in rw (a, and_left (id_ok x.id) (transition_ok x.number) h, b, c) (and_right (id_ok x.id) (transition_ok x.number) h))
    λ c. by-test (eqb x.verb finish_verb) (λ f. rw (a, limit-met (id_ok x.id) (rw (a, b, c, f) at e), b, c) f)
    λ f. absurd (let z : ◌≡◌ {A = ℕ} 2 0 = rw (a, b, c, f) at e in omega arith)

pub answer-none : (a : Answer) → answer_lawful a ≡ true → answer_fault a ≡ 0
unfolding answer_lawful answer_fault
answer-none a e =
    let few = and_left (steps_ok a.count) (all_below a.count (λ j. step_lawful (step_row a j))) e in
    let lines = and_right (steps_ok a.count) (all_below a.count (λ j. step_lawful (step_row a j))) e in
    rw few (first-none (λ j. step_fault (step_row a j)) a.count (λ j h. (told-step (step_row a j) (all-at a.count (λ j. step_lawful (step_row a j)) lines j h)).none))

pub answer-lawful : (a : Answer) → answer_fault a ≡ 0 → answer_lawful a ≡ true
unfolding answer_lawful answer_fault
answer-lawful a e =
    let (few, lines) = or-both (limit_fault (steps_ok a.count)) (first_of (λ j. step_fault (step_row a j)) a.count) e in
    rw (limit-met (steps_ok a.count) few) (all_of a.count (λ j. step_lawful (step_row a j)) (λ j h. step-lawful (step_row a j) (first-zero (λ j. step_fault (step_row a j)) a.count lines j h)))

-- what an answer without fault tells of its steps
pub record Steps (a : Answer) : Type 0 where
  pub few : a.count ≤ 1024
  pub step : (j : ℕ) → j < a.count → ToldStep (step_row a j)

pub answer-steps : (a : Answer) → answer_fault a ≡ 0 → Steps a
unfolding answer_lawful answer_fault
answer-steps a e =
    let law = answer-lawful a e in
    let few = and_left (steps_ok a.count) (all_below a.count (λ j. step_lawful (step_row a j))) law in
    let lines = and_right (steps_ok a.count) (all_below a.count (λ j. step_lawful (step_row a j))) law in
    record { few = leb-true a.count 1024 few; step = λ j h. told-step (step_row a j) (all-at a.count (λ j. step_lawful (step_row a j)) lines j h) }

pub answer-held : (a : Answer) → answer_fault a ≡ 0 → HeldSteps a
answer-held a e = let s = answer-steps a e in record { count = omega (arith, s.few); step = λ j h. (s.step j h).digits }

-- ---- its length
one-le : (n v : ℕ) → v < 10 ^ suc n → length (one_text v) ≤ suc n + 1
unfolding one_text
one-le n v h = simp length-append (omega (arith, number-le n v h))

two-le : (a b : ℕ) → a < 100 → b < 100 → length (two_text a b) ≤ 6
unfolding two_text
two-le a b h g = simp length-append (omega (arith, number-le 1 a h, one-le 1 b g))

step-le : (x : Step) → step_lawful x ≡ true → length (step_text x) ≤ 17
unfolding step_lawful step_text
step-le x e =
    by-test (eqb x.verb next_verb) (λ a. rw a (omega arith))
    λ a. let h = or-not (eqb x.verb next_verb) _ e a in
    let id = leb-true x.id 31 (and_left (id_ok x.id) (others x) h) in
    let rest = and_right (id_ok x.id) (others x) h in
    by-test (eqb x.verb fire_verb)
    (λ b. let p = leb-true x.number 15 (rw b at rest) in rw (a, b) (omega (arith, two-le x.id x.number (omega arith) (omega arith))))
    λ b. by-test (eqb x.verb end_verb)
    (λ c. let p = leb-true x.number 31 (rw (b, eqb-true x.verb end_verb c) at rest) in rw (a, b, c) (omega (arith, two-le x.id x.number (omega arith) (omega arith))))
    λ c. by-test (eqb x.verb enter_verb)
    (λ d. let p = leb-true x.number 15 (rw (b, d) at rest) in rw (a, b, c, d) (omega (arith, two-le x.id x.number (omega arith) (omega arith))))
    λ d. rw (a, b, c, d, rw (b, c, d) at rest) (omega (arith, one-le 1 x.id (omega arith)))

pub answers-are-short : AnswersAreShort
unfolding AnswersAreShort answer_text answer_lawful
answers-are-short a e =
    let law = answer-lawful a e in
    let few = leb-true a.count 1024 (and_left (steps_ok a.count) (all_below a.count (λ j. step_lawful (step_row a j))) law) in
    let lines = all-at a.count (λ j. step_lawful (step_row a j)) (and_right (steps_ok a.count) (all_below a.count (λ j. step_lawful (step_row a j))) law) in
    simp length-append (omega (
      arith,
      few,
      count-le (bytes "answer=") 0 1 (omega arith),
      count-le (bytes "steps=") 3 a.count (omega (arith, few)),
      length-in_turn (λ j. step_text (step_row a j)) a.count,
      sum-le (λ j. length (step_text (step_row a j))) 17 a.count (λ j h. step-le (step_row a j) (lines j h)),
    ))

-- no line of an answer gets 1
limit-not-one : (b : Bool) → limit_fault b ≢ 1
limit-not-one true e = omega arith
limit-not-one false e = omega arith

or-not-one : (a b : ℕ) → a ≢ 1 → b ≢ 1 → or_number a b ≢ 1
or-not-one a b p q e = by_cases (ℕ_discrete a 0) (λ z. q (sym (or-zero a b z) ∙ e)) (λ z. p (sym (or_some a b z) ∙ e))

first-not-one : (f : ℕ → ℕ) → ((x : ℕ) → f x ≢ 1) → (n : ℕ) → first_of f n ≢ 1
unfolding first_of
first-not-one f h zero e = omega arith
first-not-one f h (suc n) e = or-not-one (first_of f n) (f n) (first-not-one f h n) (h n) e

step-not-one : (x : Step) → step_fault x ≢ 1
unfolding step_fault
step-not-one x =
    go (eqb x.verb next_verb) (eqb x.verb fire_verb || eqb x.verb enter_verb) (eqb x.verb end_verb) (eqb x.verb finish_verb)
  where
    go : (n f e z : Bool) → cond n 0 (cond f (limit_fault (id_ok x.id && place_ok x.number)) (cond e (limit_fault (id_ok x.id && transition_ok x.number)) (cond z (limit_fault (id_ok x.id)) 2))) ≢ 1
    go true f e z q = omega arith
    go false true e z q = limit-not-one (id_ok x.id && place_ok x.number) q
    go false false true z q = limit-not-one (id_ok x.id && transition_ok x.number) q
    go false false false true q = limit-not-one (id_ok x.id) q
    go false false false false q = omega arith

fault-not-one : (a : Answer) → answer_fault a ≢ 1
unfolding answer_fault
fault-not-one a =
    or-not-one (limit_fault (steps_ok a.count)) (first_of (λ j. step_fault (step_row a j)) a.count) (limit-not-one (steps_ok a.count))
    (first-not-one (λ j. step_fault (step_row a j)) (λ j. step-not-one (step_row a j)) a.count)

pub one-never-of-answers : OneNeverOfAnswers
unfolding OneNeverOfAnswers write_number AnswersAreShort
one-never-of-answers a room e =
    by_cases (ℕ_discrete (answer_fault a) 0)
    (λ z. not-one (leb (length (answer_text a)) room) (rw (eq-eqb (answer_fault a) 0 z, le-leb (length (answer_text a)) 32768 (omega (arith, answers-are-short a z))) at e))
    (λ z. fault-not-one a (rw (ne_eqb (answer_fault a) 0 z) at e))
  where
    not-one : (b : Bool) → (not b ⇒ 6 ∣ 0) ≢ 1
    not-one true q = omega arith
    not-one false q = omega arith
