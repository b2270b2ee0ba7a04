use Rattle.write_items.proofs.Laws.{next}
use Rattle.write_report.specs.Lines.{instances_part}
use Rattle.report_spec.specs.Report.{instances_text}
use borrow.Author.Rules.{rules}
use Rattle.write_report.proofs.write_instances.Statement.{statement}
use Rattle.write_report.proofs.write_instances.Tie as tie

pub write_instances_spec : {M : Type 1} → statement M
unfolding instances_part instances_text
write_instances_spec =
    tie.close
    (tie.spec
    (λ c κs. search rules) (λ c κs. search rules) (λ c. search rules) (λ c. search rules) (λ c. search rules) (λ c κs. search rules)
    (λ c. search rules) (λ c. search rules)
    (λ c.
    let lines = c in
    let count = c in
    next (rw count.tally.ensures at count.write_count-used.ensures) lines.write_instance_lines.ensures))
