use borrow.Author.Rules.{rules}
use Rattle.write_texts.proofs.rows.row_at.Statement.{statement}
use Rattle.write_texts.proofs.rows.row_at.Tie as tie

pub row_at_spec : {M : Type 1} → statement M
row_at_spec =
    tie.close
    (tie.spec
    (λ c. search rules) (λ c κs. search rules) (λ c. search rules) (λ c κs. search rules) (λ c. search rules) (λ c κs. search rules)
    (λ c. rw c.in-Transitions.is c.transition_at.ensures) (λ c. rw c.in-Behaviors.is c.behavior_at.ensures) (λ c. rw c.in-Ports.is c.port_at.ensures))
