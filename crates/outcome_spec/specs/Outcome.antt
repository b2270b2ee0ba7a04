-- The outcome of an answer on a paper: what a marker, the register and the pass list go by.
use Rattle.std.specs.Prelude.{ℕ, Bool, cond, List, eqb}
use Rattle.item_spec.specs.Reader.{bytes}
use Rattle.model.specs.declared.Program.{Program}
use Rattle.model.specs.declared.Text.{Text}
use Rattle.model.specs.declared.Text.TheVariants as text
use Rattle.model.specs.declared.Walked.{Walked}
use Rattle.model.specs.Empty.{no_program}
use Rattle.done_spec.specs.Done.{all_done}
use Rattle.start_spec.specs.Paper.{Paper}
use Rattle.judge_spec.specs.Course.{Course, faulty, reached, sheet_course, course}
use Rattle.outcome_spec.specs.declared.Outcome.{Outcome}
use Rattle.outcome_spec.specs.declared.Outcome.TheVariants.{Done, Unfinished, Refused, Fault, OfPaper}

-- the program of a sheet that is read
unfoldable pub said_program : List ℕ → Program
said_program s = elim (sheet_course s) [ faulty x n at ↦ no_program | reached y ↦ y.1 ]

-- after a walk with this number, at the end or not
abbrev pub after_steps : ℕ → Bool → Outcome
after_steps refused ended = cond (eqb refused 0) (cond ended Done Unfinished) Refused

-- a fault of the answer's text is the candidate's, of any other text the paper's
abbrev pub fault_in : Text → Outcome
fault_in text.Neither = OfPaper
fault_in text.Sheet = OfPaper
fault_in text.Answer = Fault
fault_in text.Times = OfPaper
fault_in text.Start = OfPaper

abbrev pub outcome_in : Program → Course Walked → Outcome
outcome_in p (faulty x n at) = fault_in x
outcome_in p (reached w) = after_steps w.refused (all_done p w.configuration)

unfoldable pub outcome_of : Paper → List ℕ → Outcome
outcome_of s a = outcome_in (said_program s.sheet) (course s a)

-- the word for it; the last is never said, since nobody is judged then
abbrev pub outcome_text : Outcome → List ℕ
outcome_text Done = bytes "done"
outcome_text Unfinished = bytes "unfinished"
outcome_text Refused = bytes "refused"
outcome_text Fault = bytes "fault"
outcome_text OfPaper = bytes "paper"
