use Rattle.write_items.proofs.Laws.{then}
use borrow.Author.Rules.{rules}
use Rattle.sitting_lib.proofs.write_asked.Statement.{statement}
use Rattle.sitting_lib.proofs.write_asked.Tie as tie

returns : tie.Need-returns-then-not-asked
returns c = rw c.if-not-asked.true c.write_key.ensures

returns-2 : tie.Need-returns
returns-2 c = rw c.if-not-asked.false (then (then c.write_key-a.ensures c.write_instruction-b.ensures) c.write_byte.ensures)

pub write_asked_spec : {M : Type 1} → statement M
write_asked_spec = tie.close (tie.spec
    (λ c κs. search rules) (λ c. search rules) returns (λ c κs. search rules) (λ c κs. search rules) (λ c κs. search rules) (λ c. search rules)
    returns-2)
