use borrow.Author.Tests.{eq-eqb, ne_eqb}
use Rattle.form_cells.proofs.cell_byte.Statement.{statement}
use Rattle.form_cells.proofs.cell_byte.Tie as tie

pub cell_byte_spec : {M : Type 1} → statement M
cell_byte_spec = tie.close (tie.spec
    (λ c. rw (eq-eqb _ _ c.if-c-eq61.true)) (λ c. rw (ne_eqb _ _ c.if-c-eq61.false)))
