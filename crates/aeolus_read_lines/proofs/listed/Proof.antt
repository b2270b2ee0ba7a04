use borrow.Author.Tests.{eq-eqb, ne_eqb}
use borrow.Author.Rules.{rules}
use Rattle.aeolus_read_lines.proofs.listed.Statement.{statement}
use Rattle.aeolus_read_lines.proofs.listed.Tie as tie

pub listed_spec : {M : Type 1} → statement M
listed_spec =
    tie.close
    (tie.spec
    (λ c κs. search rules) (λ c. rw (eq-eqb _ _ c.if-m-eq-PROVISION.true) c.may_provide.ensures) (λ c κs. search rules)
    (λ c. rw (ne_eqb _ _ c.if-m-eq-PROVISION.false) c.may_require.ensures))
