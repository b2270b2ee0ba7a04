-- What becomes of two texts and a lent buffer: the verdict, the bytes that go into the buffer, the place of the offending line, the print.
use Rattle.std.specs.Prelude.{ℕ, List, [], true, false, cond, leb, eqb, length}
use Rattle.model.specs.declared.Text.{Text}
use Rattle.model.specs.declared.Text.TheVariants as text
use Rattle.report_spec.specs.Faults.{fault_text}
use Rattle.judge_spec.specs.declared.Place.{Place}
use Rattle.judge_spec.specs.Course.{Course, faulty, reached}
use Rattle.judge_spec.specs.Judged.{text_of, empty_at, fault_line, fault_place, step_place, over, lent_bytes}
use Rattle.aeolus_model.specs.Model.{Universe}
use Rattle.aeolus_rules_spec.specs.Refusal.{unmet_at_the_end}
use Rattle.aeolus_rules_spec.specs.Run.{Ran}
use Rattle.aeolus_judge_spec.specs.declared.Verdict.{Verdict}
use Rattle.aeolus_judge_spec.specs.Report.{report}
use Rattle.aeolus_judge_spec.specs.Course.{course}

-- the verdict, the bytes written from the buffer's start, and the place of the offending line
pub record Judgement : Type 0 where
  pub verdict : Verdict
  pub bytes : List ℕ
  pub place : Place

-- "After 1 to 6 the counts in the result are 0 and the report buffer holds its old bytes."
unfoldable pub after_fault : Text → ℕ → ℕ → List ℕ → Judgement
after_fault x n at s = record {
  verdict = record { refused = n; accepted = 0; written = 0; text = x; line = fault_line n at s };
  bytes = [];
  place = fault_place x n at s;
}

-- "for 6, the empty start of the answer"
unfoldable pub no_room : Judgement
no_room = record {
  verdict = record { refused = 6; accepted = 0; written = 0; text = text.Neither; line = 0 };
  bytes = [];
  place = empty_at text.Answer 0;
}

-- no one action is at fault after 70: "the offending line is the empty end of the answer"
unfoldable pub at_step : ℕ → ℕ
at_step refused = cond (eqb refused unmet_at_the_end) 0 refused

-- "After 60 to 69 the refused action changes nothing, and the report shows the configuration before it"; the report is r
unfoldable pub after_run : Ran → List ℕ → List ℕ → Judgement
after_run w r a = record {
  verdict = record { refused = w.refused; accepted = w.accepted; written = length r; text = text.Neither; line = 0 };
  bytes = r;
  place = step_place (at_step w.refused) w.accepted a;
}

-- "6 takes the place of 60 to 70 as of the steps' numbers in 01"
unfoldable pub in_room : ℕ → Ran → List ℕ → List ℕ → Judgement
in_room room w r a = elim (leb (length r) room) [ true ↦ after_run w r a | false ↦ no_room ]

unfoldable pub ending : List ℕ → List ℕ → ℕ → Course (Universe × Ran) → Judgement
ending s a room (faulty x n at) = after_fault x n at (text_of x s a)
ending s a room (reached (u, w)) = in_room room w (report u w) a

-- a sheet, an answer and a lent buffer of so many bytes
unfoldable pub judged : List ℕ → List ℕ → ℕ → Judgement
judged s a room = ending s a room (course s a)

-- the buffer afterwards: "Bytes past the report keep their values."
abbrev pub buffer : List ℕ → List ℕ → List ℕ → List ℕ
buffer s a old = over (judged s a (length old)).bytes old

-- what the `aeolus` program prints: it "lends 8,192 bytes, and prints the report; after 1 to 5 the three lines"
unfoldable pub printing : List ℕ → List ℕ → Course (Universe × Ran) → List ℕ
printing s a (faulty x n at) = fault_text x (fault_line n at (text_of x s a)) n
printing s a (reached (u, w)) = (in_room lent_bytes w (report u w) a).bytes

unfoldable pub printed : List ℕ → List ℕ → List ℕ
printed s a = printing s a (course s a)
