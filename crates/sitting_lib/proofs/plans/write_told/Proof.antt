use Rattle.write_items.proofs.Laws.{then}
use Rattle.sitting_spec.specs.End.{told_text}
use borrow.Author.Rules.{rules}
use Rattle.sitting_lib.proofs.plans.write_told.Statement.{statement}
use Rattle.sitting_lib.proofs.plans.write_told.Tie as tie

returns : tie.Need-returns
unfolding told_text
returns c =
    let fault = c.plan_at_fault-pointed.ensures in
    let word = then c.write_key-a.ensures c.write_word-b.ensures in
    then (then word (rw fault at c.write_where-c.ensures)) (rw fault at c.write_offending.ensures)

pub write_told_spec : {M : Type 1} → statement M
write_told_spec = tie.close (tie.spec
    (λ c κs. search rules) (λ c κs. search rules) (λ c κs. search rules) (λ c κs. search rules) (λ c κs. search rules) (λ c. search rules) returns)
