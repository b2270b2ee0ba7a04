use Rattle.model.specs.Empty.{no_answer}
use Rattle.read_items.proofs.Laws.{handed_on}
use Rattle.read_spec.specs.Fill.{answer_of}
use Rattle.read_spec.specs.Texts.{answer}
use Rattle.read_chain.specs.Chain.{shortly}
use Rattle.read_chain.proofs.After.{before-line, before-run, end-after, then-read, then-refused}
use Rattle.read_answer.proofs.read_lines.Goals as goal

pub returns-in_err-count : goal.returns-in_err-count
unfolding shortly answer
returns-in_err-count c =
    rw (handed_on _ c.from_residual.ensures.1)
    (then-refused _ _ (before-line _ (before-run _ c.length_run.ensures) c.then_due-first.ensures) c.in_err-count.ensures.reads)

pub returns : goal.returns
unfolding shortly answer answer_of no_answer
returns c =
    then-read _ _ (before-line _ (before-run _ c.length_run.ensures) c.then_due-first.ensures) c.in_ok-count.ensures.reads
    (end-after (λ a. a) _ _ _ (rw (c.put_steps.ensures, c.requires) at c.read_steps-steps.ensures) c.then_end.ensures)
