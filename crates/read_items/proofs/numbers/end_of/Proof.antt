use borrow.Author.Tests.{eq-eqb, ne_eqb}
use Rattle.read_items.proofs.numbers.end_of.Statement.{statement}
use Rattle.read_items.proofs.numbers.end_of.Tie as tie

pub end_of_spec : {M : Type 1} → statement M
end_of_spec = tie.close (tie.spec
    (λ c. rw (eq-eqb _ _ c.if-left-eq1.true)) (λ c. rw (ne_eqb _ _ c.if-left-eq1.false)))
