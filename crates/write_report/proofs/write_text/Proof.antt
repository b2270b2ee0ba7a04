use Rattle.report_spec.specs.Faults.{text_text}
use Rattle.write_items.proofs.Laws.{none}
use borrow.Author.Rules.{rules}
use Rattle.write_report.proofs.write_text.Statement.{statement}
use Rattle.write_report.proofs.write_text.Tie as tie

pub write_text_spec : {M : Type 1} → statement M
unfolding text_text
write_text_spec =
    tie.close
    (tie.spec
    (λ c. search rules) (λ c. search rules) (λ c κs. search rules) (λ c. search rules) (λ c κs. search rules) (λ c. search rules)
    (λ c κs. search rules) (λ c. search rules) (λ c κs. search rules) (λ c. rw c.in-Neither.is (none _ _)) (λ c. search rules)
    (λ c. rw c.in-Sheet.is c.write_key.ensures) (λ c. search rules) (λ c. rw c.in-Answer.is c.write_key-in-Answer.ensures) (λ c. search rules)
    (λ c. rw c.in-Times.is c.write_key-in-Times.ensures) (λ c. search rules) (λ c. rw c.in-Start.is c.write_key-in-Start.ensures))
