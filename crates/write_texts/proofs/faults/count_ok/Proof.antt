use borrow.Author.Rules.{rules}
use Rattle.write_texts.proofs.faults.count_ok.Statement.{statement}
use Rattle.write_texts.proofs.faults.count_ok.Tie as tie

pub count_ok_spec : {M : Type 1} → statement M
count_ok_spec =
    tie.close
    (tie.spec
    (λ c. search rules) (λ c. search rules) (λ c. search rules) (λ c. rw c.in-Transitions.is) (λ c. rw c.in-Behaviors.is) (λ c. rw c.in-Ports.is))
