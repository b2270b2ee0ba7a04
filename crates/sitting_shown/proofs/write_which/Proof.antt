use borrow.Author.Rules.{rules}
use Rattle.sitting_shown.proofs.write_which.Statement.{statement}
use Rattle.sitting_shown.proofs.write_which.Tie as tie

pub write_which_spec : {M : Type 1} → statement M
write_which_spec =
    tie.close
    (tie.spec
    (λ c. search rules) (λ c κs. search rules) (λ c. search rules) (λ c κs. search rules) (λ c. search rules) (λ c κs. search rules)
    (λ c. search rules) (λ c κs. search rules) (λ c. search rules) (λ c κs. search rules) (λ c. search rules)
    (λ c. rw c.in-Sheet.is c.write_key.ensures) (λ c. search rules) (λ c. rw c.in-Answer.is c.write_key-in-Answer.ensures) (λ c. search rules)
    (λ c. rw c.in-Times.is c.write_key-in-Times.ensures) (λ c. search rules) (λ c. rw c.in-Start.is c.write_key-in-Start.ensures) (λ c. search rules)
    (λ c. rw c.in-Neither.is c.write_key-in-Neither.ensures))
