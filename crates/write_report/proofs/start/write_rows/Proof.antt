use Rattle.write_items.proofs.Laws.{next}
use Rattle.write_report.specs.Lines.{rows_part}
use borrow.Author.Rules.{rules}
use Rattle.write_report.proofs.start.write_rows.Statement.{statement}
use Rattle.write_report.proofs.start.write_rows.Tie as tie

pub write_rows_spec : {M : Type 1} → statement M
unfolding rows_part
write_rows_spec =
    tie.close
    (tie.spec
    (λ c κs. search rules) (λ c κs. search rules) (λ c. search rules) (λ c. search rules) (λ c. search rules) (λ c κs. search rules)
    (λ c. search rules) (λ c. search rules)
    (λ c.
    let lines = c in
    let count = c in
    next (rw count.tally.ensures at count.write_count-used.ensures) lines.write_row_lines.ensures))
