-- "refused with the number the reader would give for that line": the reading of a text stops at its first faulty line, whatever stands further on.
use Rattle.std.specs.Prelude.{ℕ, zero, suc, ◌*◌, Bool, cond, List, [], ◌∷◌, ◌++◌, ◌≡◌, ◌≢◌, eqb}
use Rattle.item_spec.specs.Reader.{bytes}
use Rattle.model.specs.declared.Tables.{Tables}
use Rattle.model.specs.declared.Instruction.{Instruction}
use Rattle.model.specs.declared.Program.{Program}
use Rattle.model.specs.declared.Step.{Step}
use Rattle.model.specs.declared.Answer.{Answer}
use Rattle.model.specs.View.{type_of}
use Rattle.read_spec.specs.Limits.{depth_ok, types_ok, places_ok, transitions_ok, behaviors_ok, ports_ok, program_ok, steps_ok}
use Rattle.read_spec.specs.Lines.{Lines, stop}
use Rattle.rules_spec.specs.Refusal.{or_number}
use Rattle.report_spec.specs.Report.{count_text}
use Rattle.write_spec.specs.Kinds.{limit_fault, edition_fault, initial_text, initial_fault, tran_text, tran_fault, behavior_text, behavior_fault, port_line_text, port_fault, do_text, do_fault, step_text, step_fault}
use Rattle.write_spec.specs.Texts.{transition_row, behavior_row, port_row, instruction_row, step_row}
use Rattle.write_spec.specs.Cleared.{spoken, spoken_step}
use Rattle.write_spec.specs.Round.{Digits, Mask, DigitsOf, DigitsOfStep, Scribed, a_sheet, an_answer}

-- a line as it is written: its bytes, its number, and that its own numbers have five digits at most
pub record Row : Type 1 where
  pub text : List ℕ
  pub fault : ℕ
  pub Held : Type 0

-- the bytes of lines, and the number of the first that has one
unfoldable pub text_of : List Row → List ℕ
text_of [] = []
text_of (x ∷ xs) = x.text ++ text_of xs

unfoldable pub fault_of : List Row → ℕ
fault_of [] = 0
fault_of (x ∷ xs) = or_number x.fault (fault_of xs)

-- those of f i, f (i + 1), .. n of them
unfoldable pub rows_from : (ℕ → List Row) → ℕ → ℕ → List Row
rows_from f zero i = []
rows_from f (suc n) i = f i ++ rows_from f n (suc i)

-- m stops at the first faulty one of these lines, which stand after the bytes before: with its number and at its start, whatever bytes s follow it
unfoldable pub Stopped : {A : Type 0} → Lines A → List ℕ → List Row → Type 0
Stopped m before [] = Unit {0}
Stopped m before (x ∷ xs) =
    (x.fault ≢ 0 → x.Held → (s : List ℕ) → m (before ++ (x.text ++ s)) ≡ stop x.fault (x.text ++ s))
    × (x.fault ≡ 0 → Stopped m (before ++ x.text) xs)

-- the first faulty line and those after it
unfoldable pub from_first : List Row → List Row
from_first [] = []
from_first (x ∷ xs) = cond (eqb x.fault 0) (from_first xs) (x ∷ xs)

abbrev pub HeadHeld : List Row → Type 0
HeadHeld [] = Unit {0}
HeadHeld (x ∷ xs) = x.Held

-- each kind of line
abbrev pub edition_row : ℕ → Row
edition_row e = record { text = count_text (bytes "sheet=") e; fault = edition_fault e; Held = Digits e }

abbrev pub due_row : List ℕ → ℕ → Row
due_row k n = record { text = count_text k n; fault = 0; Held = Digits n }

abbrev pub count_row : List ℕ → (ℕ → Bool) → ℕ → Row
count_row k limit n = record { text = count_text k n; fault = limit_fault (limit n); Held = Digits n }

abbrev pub row_of_step : Step → Row
row_of_step x = record { text = step_text x; fault = step_fault x; Held = DigitsOfStep (spoken_step x) }

abbrev pub row_of_initial : ℕ → ℕ → Row
row_of_initial n m = record { text = initial_text m; fault = initial_fault n m; Held = Mask m }

abbrev pub row_of_tran : ℕ → ℕ × ℕ → Row
row_of_tran n y = record { text = tran_text y; fault = tran_fault n y; Held = Digits y.0 × Digits y.1 }

abbrev pub row_of_behavior : ℕ → ℕ → Row
row_of_behavior k m = record { text = behavior_text m; fault = behavior_fault k m; Held = Mask m }

abbrev pub row_of_port : ℕ → ℕ → ℕ → ℕ × ℕ × ℕ → Row
row_of_port n k m y = record { text = port_line_text y; fault = port_fault n k m y; Held = Mask y.1 × Mask y.2 }

abbrev pub row_of_do : ℕ → ℕ → Instruction → Row
row_of_do e n x = record { text = do_text x; fault = do_fault e n x; Held = DigitsOf (spoken x) }

-- the lines of type i, of a sheet, of an answer
unfoldable pub type_rows : Tables → ℕ → List Row
type_rows t i =
    due_row (bytes "type=") i ∷ (count_row (bytes "places=") places_ok (type_of t i).places ∷ (row_of_initial (type_of t i).places (type_of t i).initial
    ∷ (count_row (bytes "transitions=") transitions_ok (type_of t i).transitions ∷ (rows_from (λ j. row_of_tran (type_of t i).places (transition_row t j) ∷ []) (type_of t i).transitions (i * 32)
    ++ (count_row (bytes "behaviors=") behaviors_ok (type_of t i).behaviors ∷ (rows_from (λ j. row_of_behavior (type_of t i).transitions (behavior_row t j) ∷ []) (type_of t i).behaviors (i * 8)
    ++ (count_row (bytes "ports=") ports_ok (type_of t i).ports
    ∷ rows_from (λ j. row_of_port (type_of t i).places (type_of t i).transitions (type_of t i).initial (port_row t j) ∷ []) (type_of t i).ports (i * 16))))))))

unfoldable pub sheet_rows : Tables × Program → List Row
sheet_rows (t, p) =
    edition_row p.edition ∷ (count_row (bytes "depth=") depth_ok t.depth ∷ (count_row (bytes "types=") types_ok t.count
    ∷ (rows_from (type_rows t) t.count 0 ++ (count_row (bytes "program=") program_ok p.count ∷ rows_from (λ j. row_of_do p.edition t.count (instruction_row p j) ∷ []) p.count 0))))

unfoldable pub answer_rows : Answer → List Row
answer_rows a = due_row (bytes "answer=") 1 ∷ (count_row (bytes "steps=") steps_ok a.count ∷ rows_from (λ j. row_of_step (step_row a j) ∷ []) a.count 0)

-- of lines that make up the text and have its number
pub record StopsAtTheFirst {A : Type 0} (w : Scribed A) (rows : A → List Row) : Type 0 where
  pub are-the-text : (a : A) → text_of (rows a) ≡ w.text a
  pub have-its-fault : (a : A) → fault_of (rows a) ≡ w.fault a
  -- its reading stops at the first faulty line, where that line's own numbers have five digits at most
  pub stops-there : (a : A) → w.fault a ≢ 0 → HeadHeld (from_first (rows a)) → w.reads (w.text a) ≡ stop (w.fault a) (text_of (from_first (rows a)))
  -- and so does that of any text that is the same up to that line
  pub stops : (a : A) → Stopped w.reads [] (rows a)

unfoldable pub AnswersStopAtTheFirst : Type 0
AnswersStopAtTheFirst = StopsAtTheFirst an_answer answer_rows

unfoldable pub SheetsStopAtTheFirst : Type 0
SheetsStopAtTheFirst = StopsAtTheFirst a_sheet sheet_rows
