use Rattle.write_spec.specs.Kinds.{tran_text, behavior_text}
use Rattle.write_lines.specs.Numbers.{numbers_text}
use borrow.Author.Rules.{rules}
use Rattle.write_lines.proofs.write_row.Statement.{statement}
use Rattle.write_lines.proofs.write_row.Tie as tie

pub write_row_spec : {M : Type 1} → statement M
unfolding tran_text numbers_text behavior_text
write_row_spec =
    tie.close
    (tie.spec
    (λ c. search rules) (λ c κs. search rules) (λ c. search rules) (λ c κs. search rules) (λ c. search rules) (λ c κs. search rules)
    (λ c. search rules) (λ c. rw c.in-Transitions.is c.write_line.ensures) (λ c. search rules) (λ c. rw c.in-Behaviors.is c.write_set.ensures)
    (λ c. search rules) (λ c. rw c.in-Ports.is c.write_port.ensures))
