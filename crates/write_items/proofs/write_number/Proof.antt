use borrow.Author.Rules.{rules}
use Rattle.item_spec.specs.Write.{number_text}
use Rattle.write_items.proofs.Laws.{then}
use Rattle.write_items.proofs.Items.{number-one, number-two}
use Rattle.write_items.proofs.write_number.Statement.{statement}
use Rattle.write_items.proofs.write_number.Tie as tie

returns : tie.Need-returns-then-v-lt10
returns c = rw (number-one _ c.if-v-lt10.true) c.write_byte.ensures

returns-2 : tie.Need-returns-then-v-lt100
returns-2 c =
    let tens = c in
    let test = c in
    rw (number-two _ test.if-v-lt10.false test.if-v-lt100.true) (then tens.write_byte-p.ensures c.write_byte-then-v-lt100.ensures)

returns-3 : tie.Need-returns
unfolding number_text
returns-3 c = search rules

pub write_number_spec : {M : Type 1} → statement M
write_number_spec =
    tie.close
    (tie.spec
    (λ c. search rules) (λ c. search rules) (λ c κs. search rules) (λ c. search rules) returns (λ c. search rules) (λ c. search rules)
    (λ c κs. search rules) (λ c. search rules) (λ c. search rules) (λ c κs. search rules) (λ c. search rules) returns-2 (λ c κs. search rules)
    (λ c. search rules) returns-3)
