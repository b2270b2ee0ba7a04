-- The program lends 8,192 bytes: with its mark, too, the report has room there.
use Rattle.std.specs.Prelude.{ℕ, ◌≤◌, List, ◌≡◌, ◌≢◌, length}
use Rattle.item_spec.specs.Refusal.{buffer_short}
use Rattle.model.specs.declared.Walked.{Walked}
use Rattle.start_spec.specs.Paper.{Paper}
use Rattle.judge_spec.specs.Judged.{lent_bytes}
use Rattle.judge_spec.specs.Course.{reached}
use Rattle.timing_spec.specs.Timed.{timed_course, marked_report, timed}

unfoldable pub MarkedReportsFit : Type 0
MarkedReportsFit = (s : Paper) (a x : List ℕ) (w : Walked) (m : ℕ) → timed_course s a x ≡ reached (w, m) → length (marked_report w m) ≤ lent_bytes

unfoldable pub TimedSixNever : Type 0
TimedSixNever = (s : Paper) (a x : List ℕ) → (timed s a x lent_bytes).judgement.verdict.refused ≢ buffer_short
