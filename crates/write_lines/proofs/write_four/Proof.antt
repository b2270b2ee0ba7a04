use Rattle.item_spec.specs.Write.{four_text}
use Rattle.write_items.proofs.Laws.{then}
use borrow.Author.Rules.{rules}
use Rattle.write_lines.proofs.write_four.Statement.{statement}
use Rattle.write_lines.proofs.write_four.Tie as tie

pub write_four_spec : {M : Type 1} → statement M
unfolding four_text
write_four_spec =
    tie.close
    (tie.spec
    (λ c κs. search rules) (λ c κs. search rules) (λ c κs. search rules) (λ c. search rules)
    (λ c. then (then c.write_number-end.ensures c.write_byte-end.ensures) c.write_three.ensures))
