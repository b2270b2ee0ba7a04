use Rattle.read_items.proofs.Laws.{handed_on}
use Rattle.start_spec.specs.Text.{start_lines}
use Rattle.read_lines.proofs.Runs.{run-refused, run-then}
use Rattle.read_chain.proofs.After.{before-line, before-run, then-read, then-refused}
use Rattle.read_chain.proofs.Placed.{run-given}
use Rattle.read_start.specs.Start.{start_run}
use Rattle.read_start.proofs.Laws.{none-least}
use Rattle.read_start.proofs.read_lines.Goals as goal

pub returns-in_err-count : goal.returns-in_err-count
unfolding start_run start_lines
returns-in_err-count c =
    rw (handed_on _ c.from_residual.ensures.1)
    (then-refused _ _ (before-line _ (before-run _ c.length_run.ensures) c.then_due-first.ensures) (rw (none-least 32) at c.in_err-count.ensures.reads))

pub returns-in_err-stood : goal.returns-in_err-stood
unfolding start_run start_lines
returns-in_err-stood c =
    rw (handed_on _ c.from_residual-in_err-stood.ensures.1)
    (then-read _ _ (before-line _ (before-run _ c.length_run.ensures) c.then_due-first.ensures) (rw (none-least 32) at c.in_ok-count.ensures.reads)
    (run-refused _ _ (rw (c.requires.0, c.requires.1) at c.in_err-stood.ensures)))

pub returns-in_err-joins : goal.returns-in_err-joins
unfolding start_run start_lines
returns-in_err-joins c =
    rw (handed_on _ c.from_residual-in_err-joins.ensures.1)
    (then-read _ _ (before-line _ (before-run _ c.length_run.ensures) c.then_due-first.ensures) (rw (none-least 32) at c.in_ok-count.ensures.reads)
    (run-then _ _ (rw (c.requires.0, c.requires.1) at c.in_ok-stood.ensures)
    (run-refused _ _ (rw (none-least 64) at c.in_err-joins.ensures.reads))))

pub returns-in_err-joined : goal.returns-in_err-joined
unfolding start_run start_lines
returns-in_err-joined c =
    rw (handed_on _ c.from_residual-in_err-joined.ensures.1)
    (then-read _ _ (before-line _ (before-run _ c.length_run.ensures) c.then_due-first.ensures) (rw (none-least 32) at c.in_ok-count.ensures.reads)
    (run-then _ _ (rw (c.requires.0, c.requires.1) at c.in_ok-stood.ensures)
    (run-then _ _ (rw (none-least 64) at c.in_ok-joins.ensures.reads)
    (run-refused _ _ (c.in_err-joined.ensures _)))))

pub returns : goal.returns
unfolding start_run start_lines
returns c =
    then-read _ _ (before-line _ (before-run _ c.length_run.ensures) c.then_due-first.ensures) (rw (none-least 32) at c.in_ok-count.ensures.reads)
    (run-then _ _ (rw (c.requires.0, c.requires.1) at c.in_ok-stood.ensures)
    (run-then _ _ (rw (none-least 64) at c.in_ok-joins.ensures.reads)
    (run-then _ _ (c.in_ok-joined.ensures _)
    (run-given _ _ c.end_run.ensures))))
