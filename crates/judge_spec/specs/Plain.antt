-- "`sheet=1` .. reports as before": whatever the answer, the report is what it was before there were tickets.
use Rattle.std.specs.Prelude.{ℕ, List, ◌≡◌}
use Rattle.model.specs.declared.Tables.{Tables}
use Rattle.model.specs.declared.Program.{Program}
use Rattle.model.specs.declared.Walked.{Walked}
use Rattle.read_spec.specs.Lines.{on}
use Rattle.read_spec.specs.Texts.{sheet}
use Rattle.report_spec.specs.Report.{report}
use Rattle.report_spec.specs.Plain.{plain_report}
use Rattle.start_spec.specs.Paper.{Paper}
use Rattle.judge_spec.specs.Course.{course, reached}

unfoldable pub PlainReportsAsBefore : Type 0
PlainReportsAsBefore =
    (s : Paper) (a r : List ℕ) (t : Tables) (p : Program) (w : Walked) → sheet s.sheet ≡ on (t, p) r → p.edition ≡ 1 → course s a ≡ reached w → report w ≡ plain_report w
