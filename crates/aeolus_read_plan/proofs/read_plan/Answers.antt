use Rattle.read_items.proofs.Laws.{handed_on}
use Rattle.read_lines.proofs.Runs.{run-refused, run-then, run-seen}
use Rattle.read_chain.specs.Chain.{shortly}
use Rattle.read_chain.proofs.After.{before-run, end-after, then-read, then-refused}
use Rattle.aeolus_model.specs.Action.{no_plan, with_steps}
use Rattle.aeolus_read_spec.specs.Texts.{steps_at, plan}
use Rattle.aeolus_read_plan.proofs.read_plan.Goals as goal

pub returns-in_err-at : goal.returns-in_err-at
unfolding shortly plan
returns-in_err-at c = rw (handed_on _ c.from_residual.ensures.1) (then-refused _ _ (before-run _ c.length_run.ensures) c.in_err-at.ensures)

pub returns-in_err-count : goal.returns-in_err-count
unfolding shortly plan steps_at
returns-in_err-count c =
    rw (handed_on _ c.from_residual-in_err-count.ensures.1)
    (then-read _ _ (before-run _ c.length_run.ensures) c.in_ok-at.ensures
    (run-refused _ _ (run-refused _ _ c.in_err-count.ensures.reads)))

pub returns : goal.returns
unfolding shortly plan steps_at with_steps
returns c =
    then-read _ _ (before-run _ c.length_run.ensures) c.in_ok-at.ensures
    (run-then _ _ (run-seen (with_steps no_plan) c.in_ok-count.ensures.reads)
    (end-after (λ p. p) _ _ _ (rw (c.put_steps.ensures, c.clear_plan.ensures) at c.read_steps-steps.ensures) c.then_end.ensures))
