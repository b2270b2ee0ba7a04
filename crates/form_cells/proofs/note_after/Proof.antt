use Rattle.form_cells.proofs.Laws.{note-ends, note-begins, note-goes-on}
use Rattle.form_cells.proofs.note_after.Statement.{statement}
use Rattle.form_cells.proofs.note_after.Tie as tie

pub note_after_spec : {M : Type 1} → statement M
note_after_spec =
    tie.close
    (tie.spec
    (λ c. note-ends _ _ c.if-c-eq10.true) (λ c. note-begins _ _ c.if-c-eq10.false c.if-sign.true)
    (λ c. note-goes-on _ _ c.if-c-eq10.false c.if-sign.false))
