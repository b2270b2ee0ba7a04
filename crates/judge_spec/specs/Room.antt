-- "It lends 8,192 bytes, and 6 is shown never to occur there."
use Rattle.std.specs.Prelude.{ℕ, ◌≤◌, List, ◌≡◌, ◌≢◌, length}
use Rattle.item_spec.specs.Refusal.{buffer_short}
use Rattle.model.specs.declared.Walked.{Walked}
use Rattle.report_spec.specs.Report.{report}
use Rattle.start_spec.specs.Paper.{Paper, nothing_up}
use Rattle.judge_spec.specs.Course.{reached, course}
use Rattle.judge_spec.specs.Judged.{judged, lent_bytes}
use Rattle.judge_spec.specs.Cases.{P, answer_with}

-- whatever the texts are: if they are read, the report has room
unfoldable pub ReportsFit : Type 0
ReportsFit = (s : Paper) (a : List ℕ) (w : Walked) → course s a ≡ reached w → length (report w) ≤ lent_bytes

unfoldable pub SixNever : Type 0
SixNever = (s : Paper) (a : List ℕ) → (judged s a lent_bytes).verdict.refused ≢ buffer_short

-- "a report that doesn't fit gives 6 in place of the steps' number": that of six `next` on P has 123 bytes, and its last step gets 10
unfoldable pub SixWhereShort : Type 0
SixWhereShort = ((judged (nothing_up P) (answer_with 6 6 "") 123).verdict.refused ≡ 10) × ((judged (nothing_up P) (answer_with 6 6 "") 122).verdict.refused ≡ 6)
