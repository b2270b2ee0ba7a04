use Rattle.write_items.proofs.Laws.{next, used-fits}
use Rattle.write_report.proofs.Parts.{start-parts}
use borrow.Author.Rules.{rules}
use Rattle.write_report.proofs.start.write_start.Statement.{statement}
use Rattle.write_report.proofs.start.write_start.Tie as tie

returns : tie.Need-returns
returns c =
    let connections = c in
    let rows = c in
    rw (← start-parts _ _ _) (next (next rows.write_key-used.ensures rows.write_rows-used.ensures) connections.write_connections.ensures)

pub write_start_spec : {M : Type 1} → statement M
write_start_spec =
    tie.close
    (tie.spec
    (λ c κs. search rules) (λ c. search rules) (λ c. search rules) (λ c. search rules) (λ c κs. search rules) (λ c. search rules) (λ c. search rules)
    (λ c. search rules) (λ c. search rules) (λ c κs. search rules) (λ c. used-fits (returns c) (search rules)) (λ c. search rules) returns)
