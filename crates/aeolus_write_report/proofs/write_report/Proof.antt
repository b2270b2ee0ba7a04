use Rattle.write_items.proofs.Laws.{next, used-fits}
use Rattle.aeolus_judge_spec.specs.Report.{report}
use borrow.Author.Rules.{rules}
use Rattle.aeolus_write_report.proofs.write_report.Statement.{statement}
use Rattle.aeolus_write_report.proofs.write_report.Tie as tie

returns : tie.Need-returns
unfolding report
returns c = next (next c.write_head-used.ensures c.write_components-used.ensures) c.write_bindings.ensures

pub write_report_spec : {M : Type 1} → statement M
write_report_spec =
    tie.close
    (tie.spec
    (λ c κs. search rules) (λ c. search rules) (λ c. search rules) (λ c. search rules) (λ c κs. search rules) (λ c. search rules) (λ c. search rules)
    (λ c. search rules) (λ c. search rules) (λ c κs. search rules) (λ c. used-fits (returns c) (search rules)) (λ c. search rules) returns)
