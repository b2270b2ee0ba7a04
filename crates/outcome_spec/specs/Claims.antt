-- What is claimed of outcomes. Proved in proofs/Claims.
use Rattle.std.specs.Prelude.{ℕ, Bool, List, ◌≡◌, ◌≢◌}
use Rattle.model.specs.declared.Text.{Text}
use Rattle.model.specs.declared.Walked.{Walked}
use Rattle.done_spec.specs.Done.{AllDone}
use Rattle.start_spec.specs.Paper.{Paper}
use Rattle.judge_spec.specs.Course.{faulty, reached, course}
use Rattle.outcome_spec.specs.declared.Outcome.TheVariants.{Done, OfPaper}
use Rattle.outcome_spec.specs.Outcome.{said_program, outcome_of}
use Rattle.outcome_spec.specs.Paper.{no_steps, paper_verdict}

-- done is this and nothing less: every step is allowed, every instruction is done, every queue is empty
unfoldable pub DoneInWords : Type 0
DoneInWords =
    (s : Paper) (a : List ℕ) (w : Walked) → course s a ≡ reached w
    → (outcome_of s a ≡ Done → (w.refused ≡ 0) × AllDone (said_program s.sheet) w.configuration)
    × ((w.refused ≡ 0) → AllDone (said_program s.sheet) w.configuration → outcome_of s a ≡ Done)

-- and never beside a fault
unfoldable pub FaultsAreNotDone : Type 0
FaultsAreNotDone = (s : Paper) (a : List ℕ) (x : Text) (n at : ℕ) → course s a ≡ faulty x n at → outcome_of s a ≢ Done

-- where an answer of no steps gets no fault of the paper, no answer gets one
unfoldable pub NobodyBearsThePapersFault : Type 0
NobodyBearsThePapersFault = (s : Paper) (a : List ℕ) → outcome_of s no_steps ≢ OfPaper → outcome_of s a ≢ OfPaper

-- and so where the paper's verdict is 0, with times or without
unfoldable pub GoodPapersFaultNobody : Type 0
GoodPapersFaultNobody = (s : Paper) (b : Bool) (x a : List ℕ) → (paper_verdict s b x).refused ≡ 0 → outcome_of s a ≢ OfPaper
