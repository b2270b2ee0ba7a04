use Rattle.item_spec.specs.Write.{two_text}
use Rattle.write_items.proofs.Laws.{then}
use borrow.Author.Rules.{rules}
use Rattle.write_lines.proofs.write_pair.Statement.{statement}
use Rattle.write_lines.proofs.write_pair.Tie as tie

pub write_pair_spec : {M : Type 1} → statement M
unfolding two_text
write_pair_spec =
    tie.close
    (tie.spec
    (λ c κs. search rules) (λ c κs. search rules) (λ c κs. search rules) (λ c. search rules)
    (λ c. then (then c.write_number-end.ensures c.write_byte-end.ensures) c.write_last.ensures))
