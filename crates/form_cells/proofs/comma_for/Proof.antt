use Rattle.form_cells.proofs.Laws.{separates, separates-not, stays}
use Rattle.form_cells.proofs.comma_for.Statement.{statement}
use Rattle.form_cells.proofs.comma_for.Tie as tie

pub comma_for_spec : {M : Type 1} → statement M
comma_for_spec =
    tie.close
    (tie.spec
    (λ c. separates _ _ c.if-c-separator.true) (λ c. separates-not _ _ c.if-c-separator.false c.if-c-eq44.true)
    (λ c. stays _ _ c.if-c-separator.false c.if-c-eq44.false))
