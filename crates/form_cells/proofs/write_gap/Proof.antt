use Rattle.write_items.proofs.Laws.{none, then}
use Rattle.form_cells.proofs.Laws.{gap-none, gap-some}
use borrow.Author.Rules.{rules}
use Rattle.form_cells.proofs.write_gap.Statement.{statement}
use Rattle.form_cells.proofs.write_gap.Tie as tie

pub write_gap_spec : {M : Type 1} → statement M
write_gap_spec =
    tie.close
    (tie.spec
    (λ c. rw (gap-none _ _ c.if-count-eq0.true) (none _ _)) (λ c κs. search rules) (λ c κs. search rules) (λ c. search rules) (λ c κs. search rules)
    (λ c. search rules) (λ c. rw (gap-some _ _ c.if-count-eq0.false, ← c.mark.ensures) (then c.write_byte-at.ensures c.write_commas.ensures)))
