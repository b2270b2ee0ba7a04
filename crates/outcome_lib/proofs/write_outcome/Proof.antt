use borrow.Author.Rules.{rules}
use Rattle.outcome_lib.proofs.write_outcome.Statement.{statement}
use Rattle.outcome_lib.proofs.write_outcome.Tie as tie

pub write_outcome_spec : {M : Type 1} → statement M
write_outcome_spec =
    tie.close
    (tie.spec
    (λ c. search rules) (λ c κs. search rules) (λ c. search rules) (λ c κs. search rules) (λ c. search rules) (λ c κs. search rules)
    (λ c. search rules) (λ c κs. search rules) (λ c. search rules) (λ c κs. search rules) (λ c. search rules)
    (λ c. rw c.in-Done.is c.write_key.ensures) (λ c. search rules) (λ c. rw c.in-Unfinished.is c.write_key-in-Unfinished.ensures) (λ c. search rules)
    (λ c. rw c.in-Refused.is c.write_key-in-Refused.ensures) (λ c. search rules) (λ c. rw c.in-Fault.is c.write_key-in-Fault.ensures)
    (λ c. search rules) (λ c. rw c.in-OfPaper.is c.write_key-in-OfPaper.ensures))
