use native.Mathlib.Omega.{arith}
use borrow.Author.Tests.{eq-eqb, ne_eqb}
use borrow.Author.Rules.{rules}
use Rattle.step_instructions.proofs.tickets.stamp_of.Statement.{statement}
use Rattle.step_instructions.proofs.tickets.stamp_of.Tie as tie

returns : tie.Need-returns-then-line-eq6
returns c = rw (eq-eqb _ _ c.if-line-eq6.true) (omega arith)

returns-2 : tie.Need-returns-else-line-eq6
returns-2 c = rw (ne_eqb _ _ c.if-line-eq6.false) (omega arith)

pub stamp_of_spec : {M : Type 1} → statement M
stamp_of_spec = tie.close (tie.spec
    (λ c. search rules) (λ c. search rules) (λ c. search rules) (λ c. search rules) returns returns-2)
