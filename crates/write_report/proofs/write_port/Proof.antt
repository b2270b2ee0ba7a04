use Rattle.report_spec.specs.Report.{port_text}
use borrow.Author.Rules.{rules}
use Rattle.write_report.proofs.write_port.Statement.{statement}
use Rattle.write_report.proofs.write_port.Tie as tie

pub write_port_spec : {M : Type 1} → statement M
unfolding port_text
write_port_spec =
    tie.close
    (tie.spec
    (λ c. search rules) (λ c κs. search rules) (λ c. search rules) (λ c. search rules) (λ c κs. search rules) (λ c. search rules)
    (λ c. rw c.in-NoPort.is c.write_key.ensures) (λ c. search rules) (λ c. rw c.in-UsePort.is c.write_count.ensures))
