use Rattle.write_items.proofs.Laws.{then}
use borrow.Author.Rules.{rules}
use Rattle.write_lines.proofs.write_sets.Statement.{statement}
use Rattle.write_lines.proofs.write_sets.Tie as tie

pub write_sets_spec : {M : Type 1} → statement M
write_sets_spec =
    tie.close
    (tie.spec
    (λ c κs. search rules) (λ c κs. search rules) (λ c κs. search rules) (λ c κs. search rules) (λ c κs. search rules) (λ c. search rules)
    (λ c. then c.write_key-at.ensures (then (then (then c.write_mask-at.ensures c.write_byte-at.ensures) c.write_mask-at-2.ensures) c.write_byte.ensures)))
