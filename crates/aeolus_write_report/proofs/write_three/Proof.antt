use Rattle.item_spec.specs.Write.{one_text, two_text, three_text}
use Rattle.write_items.proofs.Laws.{then, length-written}
use borrow.Author.Rules.{rules}
use Rattle.aeolus_write_report.proofs.write_three.Statement.{statement}
use Rattle.aeolus_write_report.proofs.write_three.Tie as tie

returns : tie.Need-returns
unfolding three_text two_text one_text
returns c = then c.write_key-at.ensures (then (then c.write_number-at.ensures c.write_byte-at.ensures) (then (then c.write_number-at-2.ensures c.write_byte-at-2.ensures) (then c.write_number-at-3.ensures c.write_byte.ensures)))

pub write_three_spec : {M : Type 1} → statement M
write_three_spec =
    tie.close
    (tie.spec
    (λ c κs. search rules) (λ c κs. search rules) (λ c κs. search rules) (λ c κs. search rules) (λ c κs. search rules) (λ c κs. search rules)
    (λ c κs. search rules) (λ c. length-written (returns c)) returns)
