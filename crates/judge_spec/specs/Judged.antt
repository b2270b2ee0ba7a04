-- What becomes of a paper, an answer and a lent buffer: the verdict, the bytes that go into the buffer, the place of the line at fault, the print.
use Rattle.std.specs.Prelude.{ℕ, ◌+◌, List, [], ◌++◌, Bool, true, false, ◌||◌, leb, eqb, length, drop}
use Rattle.item_spec.specs.Refusal.{too_long, buffer_short}
use Rattle.model.specs.declared.Text.{Text}
use Rattle.model.specs.declared.Text.TheVariants as text
use Rattle.model.specs.declared.Concerned.TheVariants.{NoPort}
use Rattle.model.specs.declared.Walked.{Walked}
use Rattle.read_spec.specs.Place.{up_to_lf, line_number, line_start}
use Rattle.report_spec.specs.Report.{report}
use Rattle.report_spec.specs.Faults.{fault_text}
use Rattle.start_spec.specs.Paper.{Paper, start_bytes}
use Rattle.start_spec.specs.Served.{unserved_at_start}
use Rattle.judge_spec.specs.declared.Verdict.{Verdict}
use Rattle.judge_spec.specs.declared.Place.{Place}
use Rattle.judge_spec.specs.Course.{Course, faulty, reached, course}

-- the verdict, the bytes written from the buffer's start, and the place of the offending line
pub record Judgement : Type 0 where
  pub verdict : Verdict
  pub bytes : List ℕ
  pub place : Place

abbrev pub text_of : Text → List ℕ → List ℕ → List ℕ
text_of text.Neither s a = []
text_of text.Sheet s a = s
text_of text.Answer s a = a
text_of text.Times s a = []
text_of text.Start s a = []

-- the same of a paper
abbrev pub paper_text : Text → Paper → List ℕ → List ℕ
paper_text text.Neither s a = []
paper_text text.Sheet s a = s.sheet
paper_text text.Answer s a = a
paper_text text.Times s a = []
paper_text text.Start s a = start_bytes s.beginning

-- 1, and 50, which is "answered as 1 is"
abbrev pub lineless : ℕ → Bool
lineless n = eqb n too_long || eqb n unserved_at_start

-- "for 2 to 5, the line at fault, up to its LF or the text's end"; "for a step, its line"
abbrev pub line_at : Text → ℕ → List ℕ → Place
line_at x at s = record { text = x; start = at; size = length (up_to_lf (drop at s)) }

abbrev pub empty_at : Text → ℕ → Place
empty_at x at = record { text = x; start = at; size = 0 }

-- "`line=` (from 1; one past the last when the text ended early; 0 for number 1)"
unfoldable pub fault_line : ℕ → ℕ → List ℕ → ℕ
fault_line n at s = elim (lineless n) [ true ↦ 0 | false ↦ line_number s at ]

-- "for 1, the empty start of that text"
unfoldable pub fault_place : Text → ℕ → ℕ → List ℕ → Place
fault_place x n at s = elim (lineless n) [ true ↦ empty_at x 0 | false ↦ line_at x at s ]

-- "After 1 to 6 the counts in the result are 0 and the report buffer holds its old bytes."
unfoldable pub after_fault : Text → ℕ → ℕ → List ℕ → Judgement
after_fault x n at s = record {
  verdict = record { refused = n; port = NoPort; accepted = 0; next = 0; written = 0; text = x; line = fault_line n at s };
  bytes = [];
  place = fault_place x n at s;
}

-- "for 6, the empty start of the answer"
unfoldable pub no_room : Judgement
no_room = record {
  verdict = record { refused = buffer_short; port = NoPort; accepted = 0; next = 0; written = 0; text = text.Neither; line = 0 };
  bytes = [];
  place = empty_at text.Answer 0;
}

-- the refused step's line is the answer's third line and on; "with no refusal, the empty end of the answer"
unfoldable pub step_place : ℕ → ℕ → List ℕ → Place
step_place refused accepted a =
    elim (eqb refused 0) [
      | true ↦ empty_at text.Answer (length a)
      | false ↦ line_at text.Answer (line_start (2 + accepted) a) a
    ]

-- the verdict of a walk whose report has so many bytes
abbrev pub walk_verdict : Walked → ℕ → Verdict
walk_verdict w n = record { refused = w.refused; port = w.port; accepted = w.accepted; next = w.configuration.done; written = n; text = text.Neither; line = 0 }

-- "After 10 to 37 ..", 38 too, "..  the report shows the state before"; the report is r
unfoldable pub after_walk : Walked → List ℕ → List ℕ → Judgement
after_walk w r a = record {
  verdict = walk_verdict w (length r);
  bytes = r;
  place = step_place w.refused w.accepted a;
}

-- "the room; but a report that doesn't fit gives 6 in place of the steps' number"
unfoldable pub in_room : ℕ → Walked → List ℕ → List ℕ → Judgement
in_room room w r a = elim (leb (length r) room) [ true ↦ after_walk w r a | false ↦ no_room ]

unfoldable pub ending : Paper → List ℕ → ℕ → Course Walked → Judgement
ending s a room (faulty x n at) = after_fault x n at (paper_text x s a)
ending s a room (reached w) = in_room room w (report w) a

-- a paper, an answer and a lent buffer of so many bytes
unfoldable pub judged : Paper → List ℕ → ℕ → Judgement
judged s a room = ending s a room (course s a)

-- the buffer afterwards: "Bytes past the report keep their values."
unfoldable pub over : List ℕ → List ℕ → List ℕ
over new old = new ++ drop (length new) old

abbrev pub buffer : Paper → List ℕ → List ℕ → List ℕ
buffer s a old = over (judged s a (length old)).bytes old

-- "It lends 8,192 bytes"
abbrev pub lent_bytes : ℕ
lent_bytes = 8192

-- what the `judge` program prints: "It lends 8,192 bytes."
unfoldable pub printing : Paper → List ℕ → Course Walked → List ℕ
printing s a (faulty x n at) = fault_text x (fault_line n at (paper_text x s a)) n
printing s a (reached w) = (in_room lent_bytes w (report w) a).bytes

unfoldable pub printed : Paper → List ℕ → List ℕ
printed s a = printing s a (course s a)
