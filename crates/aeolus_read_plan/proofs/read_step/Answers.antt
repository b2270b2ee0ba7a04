use mathlib.Core.Path.{refl}
use Rattle.read_items.proofs.Laws.{handed_on}
use Rattle.read_chain.proofs.Placed.{line-put, line-stop}
use Rattle.aeolus_model.specs.Action.{with_step}
use Rattle.aeolus_model.specs.Words.{plan_in}
use Rattle.aeolus_read_spec.specs.Kinds.{step_line}
use Rattle.aeolus_read_spec.specs.Texts.{step_at}
use Rattle.aeolus_read_plan.specs.Says.{step_says}
use Rattle.aeolus_read_plan.proofs.read_step.Goals as goal

pub returns-in_err-step : goal.returns-in_err-step
unfolding step_at
returns-in_err-step c =
    let a = c.args in
    rw (handed_on _ c.from_residual.ensures.1)
    (line-stop step_says (step_line a.types) (with_step (plan_in a.words.now) a.n) _ _ _ c.place_in-at.ensures _ c.step_line.ensures c.in_err-step.ensures refl)

pub returns : goal.returns
unfolding step_at
returns c =
    let a = c.args in
    rw c.put_step.ensures
    (line-put step_says (step_line a.types) (with_step (plan_in a.words.now) a.n) _ _ _ c.place_in-at.ensures _ c.step_line.ensures c.in_ok-step.ensures refl)
