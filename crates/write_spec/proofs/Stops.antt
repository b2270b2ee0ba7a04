-- The reading of an answer stops at its first faulty line.
-- Assumes nothing.
use Prim.Native.Nat.{ℕ, suc}
use mathlib.Core.List.{List, [], ◌∷◌, ◌++◌}
use mathlib.Core.Path.{ap}
use native.Mathlib.Omega.{arith}
use native.Mathlib.Nat.{zero-add}
use lib.Dec.{ltb}
use borrow.Author.Tests.{leb-true}
use Rattle.item_spec.specs.Reader.{bytes}
use Rattle.model.specs.declared.Step.{Step}
use Rattle.model.specs.declared.Answer.{Answer}
use Rattle.model.specs.Empty.{no_step, no_answer}
use Rattle.read_spec.specs.Limits.{steps_ok}
use Rattle.read_spec.specs.Lines.{each}
use Rattle.read_spec.specs.Kinds.{step_line}
use Rattle.read_spec.specs.Fill.{answer_of, with_step}
use Rattle.read_spec.specs.Texts.{step_at, answer}
use Rattle.rules_spec.specs.Refusal.{or_number}
use Rattle.report_spec.specs.Report.{count_text}
use Rattle.write_spec.specs.Kinds.{limit_fault}
use Rattle.write_spec.specs.Texts.{step_row, answer_text, answer_fault}
use Rattle.write_spec.specs.Cleared.{column, spoken_step, cleared_answer}
use Rattle.write_spec.specs.Round.{an_answer}
use Rattle.write_spec.specs.Stops.{text_of, fault_of, rows_from, Stopped, due_row, count_row, row_of_step, answer_rows, AnswersStopAtTheFirst}
use Rattle.write_spec.proofs.Verbs.{says-step}
use Rattle.write_spec.proofs.Columns.{column-none, column-set, up_none, up_next}
use Rattle.write_spec.proofs.Answer.{told-step, step-lawful}
use Rattle.write_spec.proofs.Tells.{Tells, tells-due, tells-count, tells-map, tells-rows, stops_then, stops-last, stopped-all, text-all, fault-all}

module _ (a : Answer) where
  abbrev answer_to : ℕ → Answer
  answer_to j = record { steps = column 1024 (λ r. ltb r j) no_step (λ r. spoken_step (step_row a r)); count = a.count }

  step-tells : (j : ℕ) → Tells (step_at j (answer_to j)) (row_of_step (step_row a j) ∷ []) (answer_to (suc j))
  unfolding step_at with_step
  step-tells j =
      tells-map step_line _ (row_of_step (step_row a j)) (spoken_step (step_row a j))
      (ap (λ (xs : List Step). record { steps = xs; count = a.count }) (column-set 1024 no_step (λ r. spoken_step (step_row a r)) _ _ j (up_next j)))
      (λ e. (told-step (step_row a j) (step-lawful (step_row a j) e)).digits) (λ d. says-step (step_row a j) d)

  steps-tell : Tells (each step_at a.count 0 (answer_of a.count)) (rows_from (λ j. row_of_step (step_row a j) ∷ []) a.count 0) (cleared_answer a)
  unfolding cleared_answer answer_of no_answer
  steps-tell =
      tells-rows step_at (λ j. row_of_step (step_row a j) ∷ []) answer_to 0 a.count (λ j l h. step-tells j) a.count (answer_of a.count)
      (ap (λ (xs : List Step). record { steps = xs; count = a.count }) (column-none 1024 no_step (λ r. spoken_step (step_row a r)) (λ r. ltb r 0) up_none)) (zero-add a.count)

  answer-stops : Stopped answer [] (answer_rows a)
  unfolding answer answer_rows
  answer-stops =
      stops_then _ _ (due_row (bytes "answer=") 1 ∷ []) _ tt (tells-due (bytes "answer=") 1 (omega arith)) λ _.
      stops_then _ _ (count_row (bytes "steps=") steps_ok a.count ∷ []) _ a.count (tells-count (bytes "steps=") steps_ok a.count (λ e. omega (arith, leb-true a.count 1024 e))) λ _.
      stops-last _ (λ y. y) _ _ steps-tell

pub answers-stop-at-the-first : AnswersStopAtTheFirst
unfolding AnswersStopAtTheFirst text_of fault_of answer_rows answer_text answer_fault
answers-stop-at-the-first =
    stopped-all an_answer answer_rows
    (λ a. ap (λ (l : List ℕ). count_text (bytes "answer=") 1 ++ (count_text (bytes "steps=") a.count ++ l)) (text-all (λ j. row_of_step (step_row a j)) a.count))
    (λ a. ap (λ (n : ℕ). or_number (limit_fault (steps_ok a.count)) n) (fault-all (λ j. row_of_step (step_row a j)) a.count))
    answer-stops
