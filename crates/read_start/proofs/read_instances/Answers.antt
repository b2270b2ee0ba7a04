use mathlib.Core.Path.{sym}
use native.Mathlib.Nat.{zero-add}
use Rattle.read_items.proofs.Laws.{handed_on}
use Rattle.read_lines.proofs.Runs.{upto_turn, upto-stop, upto-end}
use Rattle.read_start.proofs.read_instances.Goals as goal

pub returns-in_err-stood : goal.returns-in_err-stood
returns-in_err-stood c = rw (handed_on _ c.from_residual.ensures.1) (upto-stop _ _ 0 _ _ _ c.loop.invariant c.loop-test.true _ (sym (zero-add _)) (c.in_err-stood.ensures _))

pub loop-preserved : goal.loop-preserved
loop-preserved c = upto_turn _ _ 0 _ _ _ c.loop.invariant c.loop-test.true _ (sym (zero-add _)) (c.in_ok-stood.ensures _)

pub returns : goal.returns
returns c = upto-end _ _ 0 _ _ _ c.loop.invariant c.loop-test.false
