-- The report's first i bytes are written.
use lib.ListN.{length, get_or}
use Rattle.page_spec.specs.Page.{begins, report_byte}
use Rattle.page_lib.proofs.Pieces.{Pieces}
use Rattle.page_lib.proofs.reports.write_rows.Given as goal

abbrev pub invariant-loop-i : goal.invariant-loop-i
invariant-loop-i l = Pieces (λ j. report_byte (begins l.report j) (get_or l.report j 0)) (length l.report) l.i l.initial.t l.t l.at l.p
