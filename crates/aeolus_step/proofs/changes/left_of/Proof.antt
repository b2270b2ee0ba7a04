use borrow.Author.Tests.{eq-eqb, ne_eqb}
use borrow.Author.Rules.{rules}
use Rattle.aeolus_step.proofs.changes.left_of.Statement.{statement}
use Rattle.aeolus_step.proofs.changes.left_of.Tie as tie

returns : tie.Need-returns-then-n-z
returns c = rw (eq-eqb _ _ c.if-n-z.true)

returns-2 : tie.Need-returns
returns-2 c = rw (ne_eqb _ _ c.if-n-z.false, ← c.only.ensures) c.without.ensures

pub left_of_spec : {M : Type 1} → statement M
left_of_spec = tie.close (tie.spec
    returns (λ c κs. search rules) (λ c κs. search rules) returns-2)
