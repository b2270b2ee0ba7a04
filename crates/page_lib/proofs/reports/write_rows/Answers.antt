use native.Mathlib.Omega.{arith}
use Rattle.page_spec.specs.Page.{report_rows}
use Rattle.page_lib.proofs.Pieces.{pieces_none, pieces_more, pieces-all}
use Rattle.page_lib.proofs.reports.write_rows.Goals as goal

pub loop-i-init : goal.loop-i-init
loop-i-init c = pieces_none _ _

pub loop-i-preserved : goal.loop-i-preserved
loop-i-preserved c = pieces_more c.loop-i.invariant (omega arith) (rw c.begins_line.ensures at c.write_report_byte-p.ensures)

pub returns : goal.returns
unfolding report_rows
returns c = pieces-all c.loop-i.invariant (omega arith)
