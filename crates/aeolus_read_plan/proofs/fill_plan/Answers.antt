use mathlib.Core.Path.{sym, ◌∙◌}
use Rattle.read_chain.proofs.Chain.{place-of}
use Rattle.read_chain.proofs.Placed.{came-cleared, came-left}
use Rattle.aeolus_model.specs.Action.{no_plan}
use Rattle.aeolus_read_spec.specs.Texts.{plan}
use Rattle.aeolus_read_plan.proofs.fill_plan.Goals.{then-is_err, else-is_err}
use Rattle.aeolus_read_plan.proofs.fill_plan.Goals as goal

pub returns : goal.returns
returns c =
    let r = c.read_plan-read in
    let m = plan c.args.types in
    rw (place-of _ c.came_to.ensures)
    (elim c.if-is_err.branch [
      | then-is_err w ↦
          rw (w.words-is, w.clear_plan.ensures)
          (came-cleared no_plan m _ _ _ r.ensures (sym c.is_err.ensures.value ∙ w.if-is_err.true))
      | else-is_err w ↦ rw w.words-is (came-left no_plan m _ _ _ r.ensures (sym c.is_err.ensures.value ∙ w.if-is_err.false))
    ])
