use borrow.Author.Tests.{eq-eqb, ne_eqb}
use Rattle.write_verbs.proofs.is_foreign.Statement.{statement}
use Rattle.write_verbs.proofs.is_foreign.Tie as tie

pub is_foreign_spec : {M : Type 1} → statement M
is_foreign_spec = tie.close (tie.spec
    (λ c. rw (eq-eqb _ _ c.if-edition-eq2.true)) (λ c. rw (ne_eqb _ _ c.if-edition-eq2.false)))
