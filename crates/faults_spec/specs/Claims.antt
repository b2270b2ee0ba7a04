-- "Number and line are proved to be what `judge` gives for every answer": for every answer that is not too long itself. Proved in proofs/Claims.
use Rattle.std.specs.Prelude.{ℕ, true, List, ◌≢◌, ◌≡◌, length}
use Rattle.model.specs.declared.Tables.{Tables}
use Rattle.model.specs.declared.Program.{Program}
use Rattle.model.specs.declared.Configuration.{Configuration}
use Rattle.model.specs.declared.Answer.{Answer}
use Rattle.model.specs.declared.Text.{Text}
use Rattle.read_spec.specs.Limits.{length_ok}
use Rattle.start_spec.specs.Paper.{Paper}
use Rattle.judge_spec.specs.declared.Verdict.{Verdict}
use Rattle.judge_spec.specs.Course.{faulty, reached, short_start, default_depth, paper_course, all_under}
use Rattle.judge_spec.specs.Judged.{judged}
use Rattle.judge_lib.specs.declared.papers.PaperFault.{PaperFault}
use Rattle.timing_spec.specs.Timed.{timed}
use Rattle.faults_spec.specs.Faults.{sheet_fault, start_fault, times_course, times_fault}

-- what a verdict tells of a text at fault
abbrev pub told : Verdict → PaperFault
told v = record { text = v.text; refused = v.refused; line = v.line }

-- "The three lengths come first (sheet, start, answer)": a sheet's fault is the judge's beside every start and every answer that are not too long
unfoldable pub SheetsAsJudged : Type 0
SheetsAsJudged =
    (s : Paper) (a : List ℕ) (room : ℕ) → length_ok (length a) ≡ true → short_start s.beginning ≡ reached tt → (sheet_fault s.sheet).refused ≢ 0
    → told (judged s a room).verdict ≡ sheet_fault s.sheet

-- a start's, beside every answer that is not too long
unfoldable pub StartsAsJudged : Type 0
StartsAsJudged =
    (s : Paper) (a : List ℕ) (room : ℕ) → length_ok (length a) ≡ true → (start_fault s).refused ≢ 0 → told (judged s a room).verdict ≡ start_fault s

-- the times', "after the sheet and the answer are read": beside every paper and answer that are
unfoldable pub TimesAsTimed : Type 0
TimesAsTimed =
    (s : Paper) (a x : List ℕ) (room : ℕ) (y : Tables × Program × Configuration × Answer) → all_under default_depth s a ≡ reached y → (times_fault x).refused ≢ 0
    → told (timed s a x room).judgement.verdict ≡ times_fault x

-- and no other fault of a text is left: where neither the sheet nor the start has one, both are read; and where the times have none, so are they
unfoldable pub NoneIsMissed : Type 0
NoneIsMissed =
    (s : Paper) (x : Text) (n at : ℕ) → (sheet_fault s.sheet).refused ≡ 0 → (start_fault s).refused ≡ 0 → paper_course s ≢ faulty x n at

unfoldable pub NoTimesAreMissed : Type 0
NoTimesAreMissed = (x : List ℕ) (k : Text) (n at : ℕ) → (times_fault x).refused ≡ 0 → times_course x ≢ faulty k n at
