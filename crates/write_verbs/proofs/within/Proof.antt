use borrow.Author.Tests.{ne_eqb}
use Rattle.write_verbs.specs.Verbs.{numbers_ok}
use borrow.Author.Rules.{rules}
use Rattle.write_verbs.proofs.within.Statement.{statement}
use Rattle.write_verbs.proofs.within.Tie as tie

pub within_spec : {M : Type 1} → statement M
unfolding numbers_ok
within_spec =
    tie.close
    (tie.spec
    (λ c. search rules) (λ c. search rules) (λ c. search rules) (λ c. search rules) (λ c. rw c.in-0.is) (λ c. rw c.in-1.is) (λ c. rw c.in-2.is)
    (λ c. rw c.in-3.is) (λ c. let r = c.in_default.in_default-own.rest in rw (ne_eqb _ _ r.0.0.0.1, ne_eqb _ _ r.0.0.1, ne_eqb _ _ r.0.1, ne_eqb _ _ r.1)))
