-- The fault of each text of a paper, before any answer exists: its number and its line, as a report tells them. A text's fault hides none of another text.
use Rattle.std.specs.Prelude.{ℕ, Bool, cond, not, List, ◌++◌, eqb}
use Rattle.item_spec.specs.Write.{only_if}
use Rattle.model.specs.declared.Text.{Text}
use Rattle.model.specs.declared.Text.TheVariants as text
use Rattle.report_spec.specs.Faults.{fault_text}
use Rattle.start_spec.specs.Paper.{Paper, nothing_up}
use Rattle.judge_spec.specs.Course.{Course, faulty, reached, short, read, ◌>>=◌, ◌>>◌}
use Rattle.judge_spec.specs.Judged.{fault_line}
use Rattle.judge_lib.specs.declared.papers.PaperFault.{PaperFault}
use Rattle.judge_lib.specs.Alone.{no_fault, paper_fault}
use Rattle.times_spec.specs.declared.Times.{Times}
use Rattle.times_spec.specs.Refusal.{times_number}
use Rattle.times_spec.specs.Text.{times}

-- the sheet's, whatever stands beside it
unfoldable pub sheet_fault : List ℕ → PaperFault
sheet_fault s = paper_fault (nothing_up s)

-- a fault, where it lies in the start
abbrev pub of_start : Text → PaperFault → PaperFault
of_start text.Neither f = no_fault
of_start text.Sheet f = no_fault
of_start text.Answer f = no_fault
of_start text.Times f = no_fault
of_start text.Start f = f

-- the start's: its lines are read by what the sheet says, so none of them beside a sheet that is refused
unfoldable pub start_fault : Paper → PaperFault
start_fault s = of_start (paper_fault s).text (paper_fault s)

-- "a too long text first"
unfoldable pub times_course : List ℕ → Course Times
times_course x = do
  short text.Times x
  read text.Times times x

-- "They act as 2 does, with `text=times`"
abbrev pub fault_of_times : List ℕ → Course Times → PaperFault
fault_of_times x (faulty k n at) = record { text = text.Times; refused = times_number n; line = fault_line n at x }
fault_of_times x (reached ts) = no_fault

-- the times', whatever stands beside them
unfoldable pub times_fault : List ℕ → PaperFault
times_fault x = fault_of_times x (times_course x)

-- where there are times
abbrev pub times_fault_if : Bool → List ℕ → PaperFault
times_fault_if b x = cond b (times_fault x) no_fault

-- "`text=`, `line=`, `refused=`" of each that is at fault
abbrev pub found_text : PaperFault → List ℕ
found_text f = only_if (not (eqb f.refused 0)) (fault_text f.text f.line f.refused)

unfoldable pub faults_text : Paper → Bool → List ℕ → List ℕ
faults_text s b x = found_text (sheet_fault s.sheet) ++ found_text (start_fault s) ++ found_text (times_fault_if b x)
