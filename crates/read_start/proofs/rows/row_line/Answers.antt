use mathlib.Core.Path.{sym, ◌∙◌}
use Rattle.read_start.specs.Says.{row_says}
use Rattle.read_start.proofs.RowLines.{form-faulty, queue-faulty, row-beyond, row-clause, row-got, row-short, next-within, slots-wide}
use Rattle.read_start.proofs.Laws.{room-few}
use Rattle.read_start.proofs.rows.row_line.Goals as goal

pub returns-in_default-clause-reads : goal.returns-in_default-clause-reads
unfolding row_says
returns-in_default-clause-reads c = form-faulty _ _ _ _ _ c.in_default.ensures

pub returns-in_default-queue_form-clause-reads : goal.returns-in_default-queue_form-clause-reads
unfolding row_says
returns-in_default-queue_form-clause-reads c = queue-faulty _ _ _ _ _ _ _ c.in-Some.ensures c.in_default-queue_form.ensures

pub returns-then-not-row_ok-clause-reads : goal.returns-then-not-row_ok-clause-reads
unfolding row_says
returns-then-not-row_ok-clause-reads c =
    row-beyond _ _ _ _ _ _ _ c.in-Some.ensures _ _ _ (room-few _ _) c.in-Some-queue_form.ensures (sym c.row_ok.ensures ∙ c.if-not-row_ok.true)

pub returns-then-not-held_ok-rises-clause-reads : goal.returns-then-not-held_ok-rises-clause-reads
unfolding row_says
returns-then-not-held_ok-rises-clause-reads c =
    row-clause _ _ _ _ _ _ _ c.in-Some.ensures _ _ _ (room-few _ _) _ c.pair_up.ensures c.in-Some-queue_form.ensures
    (sym c.row_ok.ensures ∙ c.if-not-row_ok.false) (rw (← c.held_ok.ensures, ← c.rises_to.ensures) c.if-not-held_ok-rises.true)

pub returns-clause-reads : goal.returns-clause-reads
unfolding row_says
returns-clause-reads c =
    row-got _ _ _ _ _ _ _ c.in-Some.ensures _ _ _ (room-few _ _) _ c.pair_up.ensures c.in-Some-queue_form.ensures
    (sym c.row_ok.ensures ∙ c.if-not-row_ok.false) (rw (← c.held_ok.ensures, ← c.rises_to.ensures) c.if-not-held_ok-rises.false)

pub returns-clause-small : goal.returns-clause-small
returns-clause-small c =
    let queue = c.in-Some-queue_form.ensures in
    (row-short _ _ _ _ _ _ (sym c.row_ok.ensures ∙ c.if-not-row_ok.false), (next-within _ _ queue, c.pair_up.ensures.width ∙ slots-wide _ _ queue))
