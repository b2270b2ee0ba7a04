use mathlib.Core.Path.{sym, ◌∙◌}
use Rattle.read_chain.proofs.Chain.{place-of}
use Rattle.read_chain.proofs.Placed.{came-cleared, came-left}
use Rattle.aeolus_model.specs.Model.{no_universe}
use Rattle.aeolus_read_spec.specs.Texts.{sheet}
use Rattle.aeolus_read_sheet.proofs.fill_universe.Goals.{then-is_err, else-is_err}
use Rattle.aeolus_read_sheet.proofs.fill_universe.Goals as goal

pub returns : goal.returns
returns c =
    let r = c.read_sheet-read in
    rw (place-of _ c.came_to.ensures)
    (elim c.if-is_err.branch [
      | then-is_err w ↦
          rw (w.universe-is, w.clear_universe.ensures)
          (came-cleared no_universe sheet _ _ _ r.ensures (sym c.is_err.ensures.value ∙ w.if-is_err.true))
      | else-is_err w ↦ rw w.universe-is (came-left no_universe sheet _ _ _ r.ensures (sym c.is_err.ensures.value ∙ w.if-is_err.false))
    ])
