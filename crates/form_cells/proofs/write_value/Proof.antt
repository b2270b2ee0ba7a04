use Rattle.write_items.proofs.Laws.{then}
use borrow.Author.Rules.{rules}
use Rattle.form_cells.proofs.write_value.Statement.{statement}
use Rattle.form_cells.proofs.write_value.Tie as tie

pub write_value_spec : {M : Type 1} → statement M
write_value_spec =
    tie.close
    (tie.spec
    (λ c κs. search rules) (λ c κs. search rules) (λ c. search rules) (λ c. then c.write_gap-at.ensures c.write_byte.ensures))
