-- "refused with the number the reader would give for that line, 3 standing also for more than five digits", line by line.
use Rattle.std.specs.Prelude.{ℕ, ◌≤◌, ◌<◌, Bool, true, false, List, ◌++◌, ◌≡◌, ◌≢◌}
use Rattle.item_spec.specs.Reader.{Reader, got, refused}
use Rattle.model.specs.declared.Instruction.{Instruction}
use Rattle.model.specs.declared.Step.{Step}
use Rattle.model.specs.Verb.{pushb_verb, push_ticket_verb, wait_ticket_verb}
use Rattle.read_spec.specs.Limits.{depth_ok, types_ok, places_ok, transitions_ok, behaviors_ok, ports_ok, program_ok, steps_ok, has_tickets}
use Rattle.read_spec.specs.Kinds.{count_line, initial_line, tran_line, behavior_line, port_line, do_line, step_line}
use Rattle.report_spec.specs.Report.{count_text}
use Rattle.write_spec.specs.Kinds.{limit_fault, initial_text, initial_fault, tran_text, tran_fault, behavior_text, behavior_fault, port_line_text, port_fault, do_text, do_fault, step_text, step_fault}
use Rattle.write_spec.specs.Texts.{first_of}
use Rattle.write_spec.specs.Cleared.{spoken, spoken_step}
use Rattle.write_spec.specs.Round.{Digits, Mask, DigitsOf, DigitsOfStep}

-- the number n of a line is the reader's reply to its text x, whatever comes after it: with 0 it reads a
pub record Replied {A : Type 0} (m : Reader A) (x : List ℕ) (n : ℕ) (a : A) : Type 0 where
  pub reads : n ≡ 0 → (s : List ℕ) → m (x ++ s) ≡ got a s
  pub refuses : n ≢ 0 → (s : List ℕ) → m (x ++ s) ≡ refused n

-- each kind of line by itself, where its own numbers have five digits at most, whatever the others have
pub record EachLineIsReplied : Type 0 where
  pub count : (k : List ℕ) (limit : ℕ → Bool) (n : ℕ) → Digits n → Replied (count_line k limit) (count_text k n) (limit_fault (limit n)) n
  pub initial : (n m : ℕ) → n ≤ 32 → Mask m → Replied (initial_line n) (initial_text m) (initial_fault n m) m
  pub tran : (n : ℕ) (y : ℕ × ℕ) → Digits y.0 → Digits y.1 → Replied (tran_line n) (tran_text y) (tran_fault n y) y
  pub behavior : (k m : ℕ) → k ≤ 32 → Mask m → Replied (behavior_line k) (behavior_text m) (behavior_fault k m) m
  pub port : (n k m : ℕ) (y : ℕ × ℕ × ℕ) → n ≤ 32 → k ≤ 32 → Mask y.1 → Mask y.2 → Replied (port_line n k m) (port_line_text y) (port_fault n k m y) y
  pub instruction : (e n : ℕ) (x : Instruction) → DigitsOf (spoken x) → Replied (do_line e n) (do_text x) (do_fault e n x) (spoken x)
  pub step : (x : Step) → DigitsOfStep (spoken_step x) → Replied step_line (step_text x) (step_fault x) (spoken_step x)

-- a line of a sheet that opens with e has a word for the verb v: a push without ticket in the one kind of sheets, lines with a ticket in the other
pub record HasWord (e v : ℕ) : Type 0 where
  pub known : v ≤ 7
  pub plain : has_tickets e ≡ true → v ≢ pushb_verb
  pub ticket : has_tickets e ≡ false → (v ≢ push_ticket_verb) × (v ≢ wait_ticket_verb)

-- a number of six digits or more gets 3, in a line that has a word for its verb
pub record SixDigitsGetThree : Type 0 where
  pub depth : (n : ℕ) → (Digits n → ⊥) → limit_fault (depth_ok n) ≡ 3
  pub types : (n : ℕ) → (Digits n → ⊥) → limit_fault (types_ok n) ≡ 3
  pub places : (n : ℕ) → (Digits n → ⊥) → limit_fault (places_ok n) ≡ 3
  pub transitions : (n : ℕ) → (Digits n → ⊥) → limit_fault (transitions_ok n) ≡ 3
  pub behaviors : (n : ℕ) → (Digits n → ⊥) → limit_fault (behaviors_ok n) ≡ 3
  pub ports : (n : ℕ) → (Digits n → ⊥) → limit_fault (ports_ok n) ≡ 3
  pub program : (n : ℕ) → (Digits n → ⊥) → limit_fault (program_ok n) ≡ 3
  pub steps : (n : ℕ) → (Digits n → ⊥) → limit_fault (steps_ok n) ≡ 3
  pub tran : (n : ℕ) (y : ℕ × ℕ) → n ≤ 16 → (Digits y.0 × Digits y.1 → ⊥) → tran_fault n y ≡ 3
  pub instruction : (e n : ℕ) (x : Instruction) → n ≤ 16 → HasWord e x.verb → (DigitsOf (spoken x) → ⊥) → do_fault e n x ≡ 3
  pub step : (x : Step) → x.verb ≤ 4 → (DigitsOfStep (spoken_step x) → ⊥) → step_fault x ≡ 3

-- the rows' number is that of the first row that has one
unfoldable pub FirstIsTheFirst : Type 0
FirstIsTheFirst = (f : ℕ → ℕ) (n : ℕ) → first_of f n ≢ 0 → (i : ℕ) × (i < n) × (first_of f n ≡ f i) × ((j : ℕ) → j < i → f j ≡ 0)
