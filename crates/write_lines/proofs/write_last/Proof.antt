use Rattle.item_spec.specs.Write.{one_text}
use Rattle.write_items.proofs.Laws.{then}
use borrow.Author.Rules.{rules}
use Rattle.write_lines.proofs.write_last.Statement.{statement}
use Rattle.write_lines.proofs.write_last.Tie as tie

pub write_last_spec : {M : Type 1} → statement M
unfolding one_text
write_last_spec =
    tie.close
    (tie.spec
    (λ c κs. search rules) (λ c κs. search rules) (λ c. search rules) (λ c. then c.write_number-end.ensures c.write_byte.ensures))
