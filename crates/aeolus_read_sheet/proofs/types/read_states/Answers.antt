use mathlib.Core.Path.{sym}
use native.Mathlib.Nat.{zero-add}
use Rattle.read_items.proofs.Laws.{handed_on}
use Rattle.read_lines.proofs.Runs.{upto_turn, upto-stop, upto-end}
use Rattle.aeolus_read_spec.specs.Texts.{state_at}
use Rattle.aeolus_read_sheet.proofs.types.read_states.Goals as goal

pub returns-in_err-at : goal.returns-in_err-at
returns-in_err-at c =
    rw (handed_on _ c.from_residual.ensures.1)
    (upto-stop (state_at c.args.k) _ 0 _ _ _ c.loop-q.invariant c.loop-q-test.true _ (sym (zero-add _)) c.in_err-at.ensures)

pub loop-q-preserved : goal.loop-q-preserved
loop-q-preserved c =
    upto_turn (state_at c.args.k) _ 0 _ _ _ c.loop-q.invariant c.loop-q-test.true _ (sym (zero-add _)) c.in_ok-at.ensures

pub returns : goal.returns
returns c = upto-end (state_at c.args.k) _ 0 _ _ _ c.loop-q.invariant c.loop-q-test.false
