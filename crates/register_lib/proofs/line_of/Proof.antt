use borrow.Author.Rules.{rules}
use Rattle.register_lib.proofs.line_of.Statement.{statement}
use Rattle.register_lib.proofs.line_of.Tie as tie

returns-3 : tie.Need-returns-in-Refused
returns-3 c = rw c.in-Refused.is c.line_number.ensures

pub line_of_spec : {M : Type 1} → statement M
line_of_spec = tie.close (tie.spec
    (λ c. search rules) (λ c. search rules) (λ c. search rules) (λ c κs. search rules) (λ c. search rules) (λ c. search rules) (λ c. search rules)
    (λ c. search rules) returns-3 (λ c. search rules) (λ c. search rules))
