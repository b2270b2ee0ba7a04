use Rattle.write_items.proofs.Laws.{next, used-fits}
use Rattle.write_report.proofs.Parts.{parts}
use borrow.Author.Rules.{rules}
use Rattle.write_report.proofs.write_report.Statement.{statement}
use Rattle.write_report.proofs.write_report.Tie as tie

returns : tie.Need-returns
returns c =
    let connections = c in
    let instances = c in
    let head = c in
    rw (← parts _)
    (next (next (rw head.done.ensures at head.write_head-used.ensures) instances.write_instances-used.ensures) connections.write_connections.ensures)

pub write_report_spec : {M : Type 1} → statement M
write_report_spec =
    tie.close
    (tie.spec
    (λ c κs. search rules) (λ c κs. search rules) (λ c. search rules) (λ c. search rules) (λ c. search rules) (λ c κs. search rules)
    (λ c. search rules) (λ c. search rules) (λ c. search rules) (λ c. search rules) (λ c κs. search rules) (λ c. used-fits (returns c) (search rules))
    (λ c. search rules) returns)
