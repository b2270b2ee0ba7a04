use mathlib.Core.Path.{refl}
use Rattle.read_items.proofs.Laws.{handed_on}
use Rattle.read_spec.specs.Kinds.{step_line}
use Rattle.read_spec.specs.Fill.{with_step}
use Rattle.read_spec.specs.Texts.{step_at}
use Rattle.read_chain.proofs.Placed.{line-put, line-stop}
use Rattle.words.specs.Words.{answer_in}
use Rattle.read_answer.specs.Says.{step_says}
use Rattle.read_answer.proofs.read_step.Goals as goal

pub returns-in_err-step : goal.returns-in_err-step
unfolding step_at
returns-in_err-step c =
    let a = c.args in
    rw (handed_on _ c.from_residual.ensures.1)
    (line-stop step_says step_line (with_step (answer_in a.answer.now) a.n) _ _ _ c.place_in-at.ensures _ c.step_line.ensures c.in_err-step.ensures refl)

pub returns : goal.returns
unfolding step_at
returns c =
    let a = c.args in
    rw c.put_step.ensures
    (line-put step_says step_line (with_step (answer_in a.answer.now) a.n) _ _ _ c.place_in-at.ensures _ c.step_line.ensures c.in_ok-step.ensures refl)
