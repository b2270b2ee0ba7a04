use borrow.Author.Tests.{eq-eqb, ne_eqb}
use borrow.Author.Rules.{rules}
use Rattle.sitting_lib.proofs.plans.plan_at_fault.Statement.{statement}
use Rattle.sitting_lib.proofs.plans.plan_at_fault.Tie as tie

returns : tie.Need-returns-then-refused-eq0
returns c = rw (c.in-Neither.is, eq-eqb _ _ c.if-refused-eq0.true)

returns-2 : tie.Need-returns-else-refused-eq0
returns-2 c = rw (c.in-Neither.is, ne_eqb _ _ c.if-refused-eq0.false)

returns-4 : tie.Need-returns-in-Answer
returns-4 c = rw c.in-Answer.is

pub plan_at_fault_spec : {M : Type 1} → statement M
plan_at_fault_spec = tie.close (tie.spec
    (λ c. search rules) returns (λ c. search rules) (λ c. search rules) (λ c. search rules) (λ c. search rules) returns-2 (λ c. search rules)
    returns-4 (λ c. search rules) (λ c. search rules))
