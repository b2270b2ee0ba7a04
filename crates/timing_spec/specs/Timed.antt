-- What becomes of a paper, an answer, a text of times and a lent buffer: the judgement, of a report that ends in its mark, and the mark.
use Rattle.std.specs.Prelude.{ℕ, List, ◌++◌, true, false, leb, length}
use Rattle.item_spec.specs.Reader.{bytes}
use Rattle.model.specs.declared.Tables.{Tables}
use Rattle.model.specs.declared.Program.{Program}
use Rattle.model.specs.declared.Answer.{Answer}
use Rattle.model.specs.declared.Text.{Text}
use Rattle.model.specs.declared.Text.TheVariants as text
use Rattle.model.specs.declared.Walked.{Walked}
use Rattle.model.specs.declared.Configuration.{Configuration}
use Rattle.rules_spec.specs.Walk.{walk_from}
use Rattle.report_spec.specs.Report.{count_text, report}
use Rattle.report_spec.specs.Faults.{fault_text}
use Rattle.start_spec.specs.Paper.{Paper}
use Rattle.judge_spec.specs.Course.{Course, faulty, reached, short, read, default_depth, all_under, ◌>>=◌, ◌>>◌}
use Rattle.judge_spec.specs.Judged.{Judgement, paper_text, after_fault, in_room, over, lent_bytes}
use Rattle.times_spec.specs.Text.{times}
use Rattle.times_spec.specs.Refusal.{times_number}
use Rattle.timing_spec.specs.declared.Timed.{Timed}
use Rattle.timing_spec.specs.Clock.{clock_of}
use Rattle.timing_spec.specs.Mark.{mark_after}

-- the times' own course, "a too long text first"; then the walk and its mark
unfoldable pub clocked : Tables → Program → Configuration → Answer → List ℕ → Course (Walked × ℕ)
clocked t p c y x = do
  short text.Times x
  ts ← read text.Times times x
  reached (walk_from default_depth t p c y, mark_after (walk_from default_depth t p c y).refused ts.par (clock_of default_depth t p c y ts))

-- "after the sheet and the answer are read and before any step", and so after the start
unfoldable pub timed_course : Paper → List ℕ → List ℕ → Course (Walked × ℕ)
timed_course s a x = do
  (t, p, c, y) ← all_under default_depth s a
  clocked t p c y x

-- "A line `mark=` ends the report."
unfoldable pub marked_report : Walked → ℕ → List ℕ
marked_report w m = report w ++ count_text (bytes "mark=") m

-- which of the texts, and C-14's number for a fault in the times: "They act as 2 does, with `text=times`"
abbrev pub lent_text : Text → Paper → List ℕ → List ℕ → List ℕ
lent_text text.Neither s a x = paper_text text.Neither s a
lent_text text.Sheet s a x = paper_text text.Sheet s a
lent_text text.Answer s a x = paper_text text.Answer s a
lent_text text.Times s a x = x
lent_text text.Start s a x = paper_text text.Start s a

abbrev pub number_in : Text → ℕ → ℕ
number_in text.Neither n = n
number_in text.Sheet n = n
number_in text.Answer n = n
number_in text.Times n = times_number n
number_in text.Start n = n

-- the judgement with its verdict's number
abbrev pub numbered : ℕ → Judgement → Judgement
numbered n j = record {
  verdict = record {
    refused = n;
    port = j.verdict.port;
    accepted = j.verdict.accepted;
    next = j.verdict.next;
    written = j.verdict.written;
    text = j.verdict.text;
    line = j.verdict.line;
  };
  bytes = j.bytes;
  place = j.place;
}

-- the judgement, and the mark: "after any refusal, 1 to 6 too, the mark is 0"
pub record Marked : Type 0 where
  pub judgement : Judgement
  pub mark : ℕ

unfoldable pub mark_in_room : ℕ → List ℕ → ℕ → ℕ
mark_in_room room r m = elim (leb (length r) room) [ true ↦ m | false ↦ 0 ]

unfoldable pub timed_ending : Paper → List ℕ → List ℕ → ℕ → Course (Walked × ℕ) → Marked
timed_ending s a x room (faulty k n at) = record { judgement = numbered (number_in k n) (after_fault k n at (lent_text k s a x)); mark = 0 }
timed_ending s a x room (reached (w, m)) = record { judgement = in_room room w (marked_report w m) a; mark = mark_in_room room (marked_report w m) m }

-- a paper, an answer, times and a lent buffer of so many bytes
unfoldable pub timed : Paper → List ℕ → List ℕ → ℕ → Marked
timed s a x room = timed_ending s a x room (timed_course s a x)

-- what the function answers, and the buffer afterwards
abbrev pub timed_verdict : Paper → List ℕ → List ℕ → ℕ → Timed
timed_verdict s a x room = record { verdict = (timed s a x room).judgement.verdict; mark = (timed s a x room).mark }

abbrev pub timed_buffer : Paper → List ℕ → List ℕ → List ℕ → List ℕ
timed_buffer s a x old = over (timed s a x (length old)).judgement.bytes old

-- what the `timing` program prints; it lends 8,192 bytes
unfoldable pub timed_printing : Paper → List ℕ → List ℕ → Course (Walked × ℕ) → List ℕ
timed_printing s a x (faulty k n at) = let v = (timed_ending s a x lent_bytes (faulty k n at)).judgement.verdict in fault_text v.text v.line v.refused
timed_printing s a x (reached (w, m)) = (timed_ending s a x lent_bytes (reached (w, m))).judgement.bytes

unfoldable pub timed_printed : Paper → List ℕ → List ℕ → List ℕ
timed_printed s a x = timed_printing s a x (timed_course s a x)
