use native.Mathlib.Omega.{arith}
use Rattle.page_lib.proofs.Pieces.{pieces_none, pieces_more, pieces-all}
use Rattle.page_lib.proofs.tops.write_rules.Goals as goal

pub loop-k-init : goal.loop-k-init
loop-k-init c = pieces_none _ _

pub loop-k-preserved : goal.loop-k-preserved
loop-k-preserved c = pieces_more c.loop-k.invariant (omega arith) c.write_rule-p.ensures

pub returns : goal.returns
returns c = pieces-all c.loop-k.invariant (omega arith)
