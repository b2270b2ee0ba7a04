use Rattle.write_items.proofs.Laws.{then}
use borrow.Author.Rules.{rules}
use Rattle.write_lines.proofs.write_set.Statement.{statement}
use Rattle.write_lines.proofs.write_set.Tie as tie

pub write_set_spec : {M : Type 1} → statement M
write_set_spec =
    tie.close
    (tie.spec
    (λ c κs. search rules) (λ c κs. search rules) (λ c κs. search rules) (λ c. search rules)
    (λ c. then c.write_key-at.ensures (then c.write_mask-at.ensures c.write_byte.ensures)))
