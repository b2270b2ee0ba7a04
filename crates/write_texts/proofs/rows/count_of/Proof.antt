use borrow.Author.Rules.{rules}
use Rattle.write_texts.proofs.rows.count_of.Statement.{statement}
use Rattle.write_texts.proofs.rows.count_of.Tie as tie

pub count_of_spec : {M : Type 1} → statement M
count_of_spec =
    tie.close
    (tie.spec
    (λ c. search rules) (λ c κs. search rules) (λ c. search rules) (λ c κs. search rules) (λ c. search rules) (λ c κs. search rules)
    (λ c. rw c.in-Transitions.is c.transitions_of.ensures) (λ c. rw c.in-Behaviors.is c.behaviors_of.ensures)
    (λ c. rw c.in-Ports.is c.ports_of.ensures))
