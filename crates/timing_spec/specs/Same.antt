-- What `timing` prints is what `judge` prints, but for the line `mark=` and for faults of the times.
use Rattle.std.specs.Prelude.{ℕ, List, ◌++◌, ◌≡◌}
use Rattle.item_spec.specs.Reader.{bytes}
use Rattle.model.specs.declared.Text.{Text}
use Rattle.model.specs.declared.Walked.{Walked}
use Rattle.report_spec.specs.Report.{count_text}
use Rattle.start_spec.specs.Paper.{Paper}
use Rattle.judge_spec.specs.Course.{faulty, reached, course}
use Rattle.judge_spec.specs.Judged.{printed}
use Rattle.timing_spec.specs.Timed.{timed_course, timed_printed}

-- a fault of the sheet, of the start or of the answer: the same three lines, whatever the times are
unfoldable pub FaultsPrintTheSame : Type 0
FaultsPrintTheSame = (s : Paper) (a x : List ℕ) (k : Text) (n at : ℕ) → course s a ≡ faulty k n at → timed_printed s a x ≡ printed s a

-- a pair that reaches the steps, with times that are read: the judge's print, and the mark's line after it
unfoldable pub PrintsWithItsMark : Type 0
PrintsWithItsMark =
    (s : Paper) (a x : List ℕ) (w : Walked) (m : ℕ)
    → timed_course s a x ≡ reached (w, m)
    → (course s a ≡ reached w) × (timed_printed s a x ≡ printed s a ++ count_text (bytes "mark=") m)
