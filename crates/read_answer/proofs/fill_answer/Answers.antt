use mathlib.Core.Path.{sym, ◌∙◌}
use Rattle.model.specs.Empty.{no_answer}
use Rattle.read_spec.specs.Texts.{answer}
use Rattle.read_chain.proofs.Chain.{place-of}
use Rattle.read_chain.proofs.Placed.{came-cleared, came-left}
use Rattle.read_answer.proofs.fill_answer.Goals.{then-is_err, else-is_err}
use Rattle.read_answer.proofs.fill_answer.Goals as goal

pub returns : goal.returns
returns c =
    let r = c.read_lines-read in
    rw (place-of _ c.came_to.ensures)
    (elim c.if-is_err.branch [
      | then-is_err w ↦
          rw (w.answer-is, w.clear_answer-then-is_err.ensures)
          (came-cleared no_answer answer _ _ _ r.ensures (sym c.is_err.ensures.value ∙ w.if-is_err.true))
      | else-is_err w ↦ rw w.answer-is (came-left no_answer answer _ _ _ r.ensures (sym c.is_err.ensures.value ∙ w.if-is_err.false))
    ])
