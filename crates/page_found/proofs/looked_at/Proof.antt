use borrow.Author.Rules.{rules}
use Rattle.page_spec.specs.Line.{line_count}
use Rattle.page_found.proofs.looked_at.Statement.{statement}
use Rattle.page_found.proofs.looked_at.Tie as tie

pub looked_at_spec : {M : Type 1} → statement M
unfolding line_count
looked_at_spec =
    tie.close
    (tie.spec
    (λ c. search rules) (λ c κs. search rules) (λ c. search rules) (λ c κs. search rules) (λ c. search rules) (λ c. search rules) (λ c. search rules)
    (λ c. rw c.in-Done.is c.line_number.ensures) (λ c. rw c.in-Unfinished.is c.line_number-in-Unfinished.ensures) (λ c. search rules)
    (λ c. search rules) (λ c. search rules))
