-- "At most 1,811 bytes, so a room of 8,192 never gives 6."
use Rattle.std.specs.Prelude.{ℕ, ◌≤◌, List, ◌≡◌, ◌≢◌, length}
use Rattle.judge_spec.specs.Judged.{lent_bytes}
use Rattle.judge_spec.specs.Course.{reached}
use Rattle.aeolus_model.specs.Model.{Universe}
use Rattle.aeolus_rules_spec.specs.Run.{Ran}
use Rattle.aeolus_judge_spec.specs.Report.{report}
use Rattle.aeolus_judge_spec.specs.Course.{course}
use Rattle.aeolus_judge_spec.specs.Judged.{judged}

-- whatever the two texts are: if they are read, the report has room
unfoldable pub ReportsFit : Type 0
ReportsFit = (s a : List ℕ) (u : Universe) (w : Ran) → course s a ≡ reached (u, w) → length (report u w) ≤ 1811

unfoldable pub SixNever : Type 0
SixNever = (s a : List ℕ) → (judged s a lent_bytes).verdict.refused ≢ 6
