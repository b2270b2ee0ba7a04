-- A paper alone: the fault that the judge gives it, and what it says.
use Rattle.std.specs.Prelude.{ℕ, List, []}
use Rattle.model.specs.declared.Tables.{Tables}
use Rattle.model.specs.declared.Program.{Program}
use Rattle.model.specs.declared.Configuration.{Configuration}
use Rattle.model.specs.declared.Text.{Text}
use Rattle.model.specs.declared.Text.TheVariants as text
use Rattle.model.specs.Empty.{no_tables, no_program, start}
use Rattle.read_chain.specs.declared.Place.{Place}
use Rattle.start_spec.specs.Paper.{Paper}
use Rattle.judge_spec.specs.Course.{Course, faulty, reached, paper_course}
use Rattle.judge_spec.specs.Judged.{paper_text, fault_line}
use Rattle.judge_lib.specs.declared.papers.PaperFault.{PaperFault}

-- what stands in an answer's place: nothing at fault
abbrev pub unanswered : Place
unanswered = record { refused = 0; place = 0 }

abbrev pub no_fault : PaperFault
no_fault = record { text = text.Neither; refused = 0; line = 0 }

abbrev pub fault_at : Text → ℕ → ℕ → List ℕ → PaperFault
fault_at x n at s = record { text = x; refused = n; line = fault_line n at s }

-- of what the paper s comes to
abbrev pub fault_in : {A : Type 0} → Paper → Course A → PaperFault
fault_in s (faulty x n at) = fault_at x n at (paper_text x s [])
fault_in s (reached y) = no_fault

unfoldable pub paper_fault : Paper → PaperFault
paper_fault s = fault_in s (paper_course s)

-- what the words say: beside a fault they are cleared
abbrev pub said_by : Course (Tables × Program × Configuration) → Tables × Program × Configuration
said_by (faulty x n at) = (no_tables, no_program, start)
said_by (reached y) = y
