use native.Mathlib.Omega.{arith}
use Rattle.page_spec.specs.Page.{line_rows}
use Rattle.page_lib.proofs.Pieces.{pieces_none, pieces_more, pieces-all}
use Rattle.page_lib.proofs.lines.write_lines.Goals as goal

pub loop-i-init : goal.loop-i-init
loop-i-init c = pieces_none _ _

pub loop-i-preserved : goal.loop-i-preserved
loop-i-preserved c = pieces_more c.loop-i.invariant (omega arith) c.write_if_there-p.ensures

pub returns : goal.returns
unfolding line_rows
returns c = pieces-all c.loop-i.invariant (omega arith)
