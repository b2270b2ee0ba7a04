-- The round trips of the two texts, stated once for both.
use Rattle.std.specs.Prelude.{ℕ, ◌+◌, ◌*◌, ◌≤◌, ◌<◌, ◌^◌, true, List, [], ◌≡◌, ◌≢◌, length}
use Rattle.model.specs.declared.Tables.{Tables}
use Rattle.model.specs.declared.Instruction.{Instruction}
use Rattle.model.specs.declared.Program.{Program}
use Rattle.model.specs.declared.Step.{Step}
use Rattle.model.specs.declared.Answer.{Answer}
use Rattle.model.specs.View.{type_of}
use Rattle.read_spec.specs.Lines.{Lines, on, stop}
use Rattle.read_spec.specs.Texts.{sheet, answer}
use Rattle.read_spec.specs.Lawful.{Lawful, answer_lawful}
use Rattle.write_spec.specs.Texts.{sheet_text, sheet_fault, answer_text, answer_fault, transition_row, behavior_row, port_row, instruction_row, step_row}
use Rattle.item_spec.specs.Refusal.{too_long}
use Rattle.write_spec.specs.Buffer.{write_number}
use Rattle.write_spec.specs.Cleared.{cleared, spoken, cleared_program, spoken_step, cleared_answer}

-- what can be written so that it is read: a number has at most five digits, a mask members below 32; only rows that count are looked at
abbrev pub Digits : ℕ → Type 0
Digits n = n < 10 ^ 5

abbrev pub Mask : ℕ → Type 0
Mask m = m < 2 ^ 32

abbrev pub DigitsOf : Instruction → Type 0
DigitsOf x = Digits x.id × Digits x.number × Digits x.provider × Digits x.provideport

abbrev pub DigitsOfStep : Step → Type 0
DigitsOfStep x = Digits x.id × Digits x.number

pub record Held (t : Tables) (p : Program) : Type 0 where
  pub edition : Digits p.edition
  pub depth : Digits t.depth
  pub count : Digits t.count
  pub places : (i : ℕ) → i < t.count → Digits (type_of t i).places
  pub initial : (i : ℕ) → i < t.count → Mask (type_of t i).initial
  pub transitions : (i : ℕ) → i < t.count → Digits (type_of t i).transitions
  pub behaviors : (i : ℕ) → i < t.count → Digits (type_of t i).behaviors
  pub ports : (i : ℕ) → i < t.count → Digits (type_of t i).ports
  pub transition : (i x : ℕ) → i < t.count → x < (type_of t i).transitions → Digits (transition_row t (i * 32 + x)).0 × Digits (transition_row t (i * 32 + x)).1
  pub behavior : (i x : ℕ) → i < t.count → x < (type_of t i).behaviors → Mask (behavior_row t (i * 8 + x))
  pub port : (i x : ℕ) → i < t.count → x < (type_of t i).ports → Mask (port_row t (i * 16 + x)).1 × Mask (port_row t (i * 16 + x)).2
  pub instructions : Digits p.count
  pub instruction : (j : ℕ) → j < p.count → DigitsOf (spoken (instruction_row p j))

pub record HeldSteps (a : Answer) : Type 0 where
  pub count : Digits a.count
  pub step : (j : ℕ) → j < a.count → DigitsOfStep (spoken_step (step_row a j))

-- a text: its reader, how it is written, the number of its first faulty line, what a written one says, what can be written, its rules
pub record Scribed (A : Type 0) : Type 1 where
  pub reads : Lines A
  pub text : A → List ℕ
  pub fault : A → ℕ
  pub says : A → A
  pub Writable : A → Type 0
  pub Rules : A → Type 0

abbrev pub a_sheet : Scribed (Tables × Program)
a_sheet = record {
  reads = sheet;
  text = λ x. sheet_text x.0 x.1;
  fault = λ x. sheet_fault x.0 x.1;
  says = λ x. (cleared x.0, cleared_program x.1);
  Writable = λ x. Held x.0 x.1;
  Rules = λ x. Lawful x.0 x.1;
}

abbrev pub an_answer : Scribed Answer
an_answer = record {
  reads = answer;
  text = answer_text;
  fault = answer_fault;
  says = cleared_answer;
  Writable = HeldSteps;
  Rules = λ a. answer_lawful a ≡ true;
}

pub record RoundTrips {A : Type 0} (w : Scribed A) : Type 0 where
  -- "reading it must give the tables back"
  pub written-is-read : (a : A) → w.Writable a → w.fault a ≡ 0 → w.reads (w.text a) ≡ on (w.says a) []
  -- "refused with the number the reader would give for that line"
  pub refused-as-read : (a : A) → w.Writable a → w.fault a ≢ 0 → (r : List ℕ) × (w.reads (w.text a) ≡ stop (w.fault a) r)
  -- "writing what was read must give the same bytes, the `depth=` value as it was written included"
  pub read-is-written : (s r : List ℕ) (a : A) → w.reads s ≡ on a r → (w.fault a ≡ 0) × (s ≡ w.text a)
  -- what was read has nothing in the slots that no line says
  pub read-is-said : (s r : List ℕ) (a : A) → w.reads s ≡ on a r → w.says a ≡ a
  -- refused are just those "that the reader would never produce"
  pub lawful-is-faultless : (a : A) → w.Rules a → w.fault a ≡ 0
  pub faultless-is-lawful : (a : A) → w.fault a ≡ 0 → w.Rules a
  pub faultless-is-writable : (a : A) → w.fault a ≡ 0 → w.Writable a
  -- the converse of number 7: what passes its clauses is what a text says
  pub lawful-is-said : (a : A) → w.Rules a → (s : List ℕ) × (w.reads s ≡ on (w.says a) [])

unfoldable pub SheetsRoundTrip : Type 0
SheetsRoundTrip = RoundTrips a_sheet

unfoldable pub AnswersRoundTrip : Type 0
AnswersRoundTrip = RoundTrips an_answer

-- an answer is never too long: 9 bytes, 11 bytes, and 17 for each of 1,024 steps
unfoldable pub AnswersAreShort : Type 0
AnswersAreShort = (a : Answer) → answer_fault a ≡ 0 → length (answer_text a) ≤ 17428

unfoldable pub OneNeverOfAnswers : Type 0
OneNeverOfAnswers = (a : Answer) (room : ℕ) → write_number (answer_fault a) (answer_text a) room ≢ too_long
