use mathlib.Core.Path.{◌≡◌, ◌∙◌}
use native.Mathlib.Omega.{arith}
use Rattle.aeolus_model.specs.Words.{configuration_in}
use Rattle.aeolus_step.proofs.Rows.{turned-start, turned_more, turned-all}
use Rattle.aeolus_step.proofs.changes.free_rows.Goals as goal

pub loop-n-init : goal.loop-n-init
loop-n-init c = turned-start _ _

pub loop-n-preserved : goal.loop-n-preserved
loop-n-preserved c = let l = c.loop-n in c.free_row.ensures ∙ turned_more _ _ (configuration_in l.deployed) l.n l.invariant

pub returns : goal.returns
returns c = let e : c.loop-n.n ≡ 512 = omega arith in (rw e at c.loop-n.invariant) ∙ turned-all _ c.args.deployed.now
