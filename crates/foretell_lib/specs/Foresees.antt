-- What foretelling a paper answers and prints, as functions of the texts, and that no other outcome fits.
use Rattle.std.specs.Prelude.{ℕ, cond, List, [], ◌++◌, ◌≡◌, eqb, length}
use Rattle.item_spec.specs.Reader.{bytes}
use Rattle.model.specs.declared.Program.{Program}
use Rattle.model.specs.declared.Text.{Text}
use Rattle.model.specs.declared.Text.TheVariants as text
use Rattle.report_spec.specs.Report.{count_text}
use Rattle.report_spec.specs.Faults.{fault_text}
use Rattle.start_spec.specs.Paper.{Paper}
use Rattle.judge_spec.specs.Course.{Course, faulty, reached}
use Rattle.judge_spec.specs.Judged.{paper_text, fault_line, over}
use Rattle.foretell_spec.specs.declared.Foretelling.{Foretelling}
use Rattle.foretell_spec.specs.Lines.{instruction_line}
use Rattle.foretell_spec.specs.OnTexts.{foretold_on, foretold_line}
use Rattle.foretell_lib.specs.declared.Foreseen.{Foreseen}
use Rattle.foretell_lib.specs.declared.Told.{Told}

abbrev pub told_of : Told → Foretelling
told_of r = record { next = r.next; refused = r.refused }

-- the line of the sheet s on which the instruction after the first `next` stands, where it is refused
abbrev pub line_of : List ℕ → Program → ℕ → ℕ → ℕ
line_of s p next refused = cond (eqb refused 0) 0 (instruction_line s p next)

-- of the paper s: the number and the line of a fault, or what is foretold
abbrev pub answering : Paper → Course Foretelling → Foreseen
answering s (faulty x n at) = record { refused = n; next = 0; text = x; line = fault_line n at (paper_text x s []) }
answering s (reached f) = record { refused = f.refused; next = f.next; text = text.Neither; line = foretold_line s f }

unfoldable pub foreseen : Paper → Foreseen
foreseen s = answering s (foretold_on s)

-- the very two lines of the report that an answer which comes there gets
unfoldable pub refused_text : ℕ → ℕ → List ℕ
refused_text next refused = count_text (bytes "next=") next ++ count_text (bytes "refused=") refused

-- and the line of the sheet
unfoldable pub told_text : ℕ → ℕ → ℕ → List ℕ
told_text next refused line = refused_text next refused ++ count_text (bytes "line=") line

-- or the three lines of a text at fault
abbrev pub shown_as : Text → Foreseen → List ℕ
shown_as text.Neither f = told_text f.next f.refused f.line
shown_as text.Sheet f = fault_text text.Sheet f.line f.refused
shown_as text.Answer f = fault_text text.Answer f.line f.refused
shown_as text.Times f = fault_text text.Times f.line f.refused
shown_as text.Start f = fault_text text.Start f.line f.refused

unfoldable pub foreseen_text : Paper → List ℕ
foreseen_text s = shown_as (foreseen s).text (foreseen s)

-- no other answer fits, and no other bytes: both promises are equations
unfoldable pub NoOtherForeseen : Type 0
NoOtherForeseen = (s : Paper) (r q : Foreseen) → r ≡ foreseen s → q ≡ foreseen s → r ≡ q

unfoldable pub NoOtherForeseenPrint : Type 0
NoOtherForeseenPrint =
    (s : Paper) (old b c : List ℕ) (n m : ℕ)
    → (n ≡ length (foreseen_text s)) × (b ≡ over (foreseen_text s) old)
    → (m ≡ length (foreseen_text s)) × (c ≡ over (foreseen_text s) old)
    → (n ≡ m) × (b ≡ c)
