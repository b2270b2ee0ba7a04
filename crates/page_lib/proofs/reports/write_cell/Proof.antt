use borrow.Author.Tests.{eq-eqb, ne_eqb}
use Rattle.page_spec.specs.Page.{cell_piece}
use Rattle.page_spec.specs.Piece.{piece_text}
use borrow.Author.Rules.{rules}
use Rattle.page_lib.proofs.reports.write_cell.Statement.{statement}
use Rattle.page_lib.proofs.reports.write_cell.Tie as tie

pub write_cell_spec : {M : Type 1} → statement M
unfolding cell_piece piece_text
write_cell_spec =
    tie.close
    (tie.spec
    (λ c κs. search rules) (λ c. search rules) (λ c. rw (eq-eqb _ _ c.if-b-eq10.true, cell_piece) c.write_key.ensures) (λ c κs. search rules)
    (λ c. search rules) (λ c. rw (ne_eqb _ _ c.if-b-eq10.false, eq-eqb _ _ c.if-b-eq61.true, cell_piece) c.write_key-then-b-eq61.ensures)
    (λ c κs. search rules) (λ c. search rules)
    (λ c. rw (ne_eqb _ _ c.if-b-eq10.false, ne_eqb _ _ c.if-b-eq61.false, eq-eqb _ _ c.if-b-eq44.true, cell_piece) c.write_key-then-b-eq44.ensures)
    (λ c. search rules) (λ c κs. search rules) (λ c. search rules)
    (λ c. rw (ne_eqb _ _ c.if-b-eq10.false, ne_eqb _ _ c.if-b-eq61.false, ne_eqb _ _ c.if-b-eq44.false, cell_piece) c.show.ensures))
