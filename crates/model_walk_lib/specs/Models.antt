-- What a model walk of a paper answers, and the lent buffer afterwards: "Refusals: those of the sheet, then 6 for the lent buffer, which stays as found."
use Rattle.std.specs.Prelude.{ℕ, ◌≤◌, true, false, List, [], ◌≡◌, ◌≢◌, leb, length}
use Rattle.item_spec.specs.Refusal.{buffer_short}
use Rattle.model.specs.declared.Text.{Text}
use Rattle.model.specs.declared.Text.TheVariants as text
use Rattle.start_spec.specs.Paper.{Paper}
use Rattle.judge_spec.specs.Course.{Course, faulty, reached, paper_course}
use Rattle.judge_spec.specs.Judged.{paper_text, fault_line, over}
use Rattle.model_walk_spec.specs.declared.Ending.TheVariants.{NoEnding}
use Rattle.model_walk_spec.specs.OnTexts.{Said, model_of, model_text, ending_of}
use Rattle.model_walk_lib.specs.declared.Modelled.{Modelled}

-- beside a refusal
abbrev pub no_model : ℕ → Text → ℕ → Modelled
no_model n x line = record { refused = n; text = x; line = line; ending = NoEnding; steps = 0; written = 0 }

-- of what a paper says, with so many bytes lent
unfoldable pub model_in : ℕ → Said → Modelled
model_in room x =
    elim (leb (length (model_text x)) room) [
      | true ↦ record { refused = 0; text = text.Neither; line = 0; ending = ending_of x; steps = length (model_of x); written = length (model_text x) }
      | false ↦ no_model buffer_short text.Neither 0
    ]

unfoldable pub bytes_in : ℕ → Said → List ℕ
bytes_in room x = elim (leb (length (model_text x)) room) [ true ↦ model_text x | false ↦ [] ]

-- of the paper s
abbrev pub answering : Paper → ℕ → Course Said → Modelled
answering s room (faulty x n at) = no_model n x (fault_line n at (paper_text x s []))
answering s room (reached x) = model_in room x

abbrev pub writing : ℕ → Course Said → List ℕ
writing room (faulty x n at) = []
writing room (reached x) = bytes_in room x

-- every field of the result, and every byte of the buffer that held `old`
pub record Models (s : Paper) (old : List ℕ) (r : Modelled) (after : List ℕ) : Type 0 where
  pub answer-is : r ≡ answering s (length old) (paper_course s)
  pub buffer-is : after ≡ over (writing (length old) (paper_course s)) old

unfoldable pub NoOtherModel : Type 0
NoOtherModel = (s : Paper) (old : List ℕ) (r q : Modelled) (b c : List ℕ) → Models s old r b → Models s old q c → (r ≡ q) × (b ≡ c)

-- "6 for the lent buffer": never where 17,428 bytes are lent, as the program does
unfoldable pub SixNever : Type 0
SixNever = (s : Paper) (room : ℕ) → 17428 ≤ room → (answering s room (paper_course s)).refused ≢ buffer_short
