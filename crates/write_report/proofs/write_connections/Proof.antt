use Rattle.write_items.proofs.Laws.{next}
use Rattle.write_report.specs.Lines.{connections_part}
use borrow.Author.Rules.{rules}
use Rattle.write_report.proofs.write_connections.Statement.{statement}
use Rattle.write_report.proofs.write_connections.Tie as tie

pub write_connections_spec : {M : Type 1} → statement M
unfolding connections_part
write_connections_spec =
    tie.close
    (tie.spec
    (λ c κs. search rules) (λ c. search rules) (λ c κs. search rules) (λ c. search rules) (λ c. search rules) (λ c. search rules)
    (λ c κs. c.entries-n.ensures.0) (λ c. search rules) (λ c. search rules)
    (λ c.
    let lines = c in
    let count = c in
    next (rw count.entries-n.ensures.0 at count.write_count-used.ensures) lines.write_connection_lines.ensures))
