use Rattle.read_items.proofs.Laws.{handed_on}
use Rattle.read_lines.proofs.Runs.{run-refused, run-then}
use Rattle.aeolus_read_spec.specs.Texts.{to_at, row_at, rows_at, state_at}
use Rattle.aeolus_read_lines.specs.Kinds.{line_at}
use Rattle.aeolus_read_sheet.proofs.types.read_state.Goals as goal

pub returns-in_err-at : goal.returns-in_err-at
unfolding state_at
returns-in_err-at c = rw (handed_on _ c.from_residual.ensures.1) (run-refused _ _ c.in_err-at.ensures)

pub returns-in_err-at-2 : goal.returns-in_err-at-2
unfolding state_at to_at line_at
returns-in_err-at-2 c =
    rw (handed_on _ c.from_residual-in_err-at-2.ensures.1) (run-then _ _ c.in_ok-at.ensures (run-refused _ _ c.in_err-at-2.ensures))

pub returns-in_err-active : goal.returns-in_err-active
unfolding state_at to_at rows_at line_at
returns-in_err-active c =
    rw (handed_on _ c.from_residual-in_err-active.ensures.1)
    (run-then _ _ c.in_ok-at.ensures (run-then _ _ c.in_ok-at-2.ensures (run-refused _ _ c.in_err-active.ensures.reads)))

pub returns : goal.returns
unfolding state_at to_at rows_at row_at line_at
returns c = run-then _ _ c.in_ok-at.ensures (run-then _ _ c.in_ok-at-2.ensures (run-then _ _ c.in_ok-active.ensures.reads c.read_lines.ensures))
