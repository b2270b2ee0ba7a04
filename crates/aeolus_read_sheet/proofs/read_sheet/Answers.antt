use Rattle.read_items.proofs.Laws.{handed_on}
use Rattle.read_lines.proofs.Runs.{run-refused, run-then, run-seen}
use Rattle.read_chain.specs.Chain.{shortly}
use Rattle.read_chain.proofs.After.{before-run, end-after, then-read, then-refused}
use Rattle.aeolus_model.specs.Model.{no_universe, with_count}
use Rattle.aeolus_read_spec.specs.Texts.{types_at, sheet}
use Rattle.aeolus_read_sheet.proofs.read_sheet.Goals as goal

pub returns-in_err-at : goal.returns-in_err-at
unfolding shortly sheet
returns-in_err-at c = rw (handed_on _ c.from_residual.ensures.1) (then-refused _ _ (before-run _ c.length_run.ensures) c.in_err-at.ensures)

pub returns-in_err-count : goal.returns-in_err-count
unfolding shortly sheet types_at
returns-in_err-count c =
    rw (handed_on _ c.from_residual-in_err-count.ensures.1)
    (then-read _ _ (before-run _ c.length_run.ensures) c.in_ok-at.ensures
    (run-refused _ _ (run-refused _ _ c.in_err-count.ensures.reads)))

pub returns : goal.returns
unfolding shortly sheet types_at with_count
returns c =
    then-read _ _ (before-run _ c.length_run.ensures) c.in_ok-at.ensures
    (run-then _ _ (run-seen (with_count no_universe) c.in_ok-count.ensures.reads)
    (end-after (λ u. u) _ _ _ (rw (c.put_types.ensures, c.clear_universe.ensures) at c.read_types-types.ensures) c.then_end.ensures))
