use borrow.Author.Rules.{rules}
use Rattle.sitting_lib.proofs.at_fault.Statement.{statement}
use Rattle.sitting_lib.proofs.at_fault.Tie as tie

returns-4 : tie.Need-returns-in-Fault
returns-4 c = rw c.in-Fault.is

pub at_fault_spec : {M : Type 1} → statement M
at_fault_spec = tie.close (tie.spec
    (λ c. search rules) (λ c. search rules) (λ c. search rules) (λ c. search rules) (λ c. search rules) (λ c. search rules) (λ c. search rules)
    (λ c. search rules) returns-4 (λ c. search rules))
