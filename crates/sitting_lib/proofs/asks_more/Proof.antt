use borrow.Author.Rules.{rules}
use Rattle.sitting_lib.proofs.asks_more.Statement.{statement}
use Rattle.sitting_lib.proofs.asks_more.Tie as tie

returns-3 : tie.Need-returns-in-Refused
returns-3 c = rw c.in-Refused.is c.next_left.ensures

pub asks_more_spec : {M : Type 1} → statement M
asks_more_spec = tie.close (tie.spec
    (λ c. search rules) (λ c. search rules) (λ c. search rules) (λ c κs. search rules) (λ c. search rules) (λ c. search rules) (λ c. search rules)
    (λ c. search rules) returns-3 (λ c. search rules) (λ c. search rules))
