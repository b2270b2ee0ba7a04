use borrow.Author.Tests.{eq-eqb, ne_eqb}
use borrow.Author.Rules.{rules}
use Rattle.aeolus_correct.proofs.is_other.Statement.{statement}
use Rattle.aeolus_correct.proofs.is_other.Tie as tie

pub is_other_spec : {M : Type 1} → statement M
is_other_spec =
    tie.close
    (tie.spec
    (λ c κs. search rules) (λ c. rw (ne_eqb _ _ c.if-y-z.true) c.is_deployed.ensures) (λ c. rw (eq-eqb _ _ c.if-y-z.false)))
