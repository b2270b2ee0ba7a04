use borrow.Author.Rules.{rules}
use Rattle.report_spec.specs.Faults.{fault_text}
use Rattle.write_items.proofs.Laws.{next, used-fits}
use Rattle.write_report.proofs.write_fault.Statement.{statement}
use Rattle.write_report.proofs.write_fault.Tie as tie

returns : tie.Need-returns
unfolding fault_text
returns c =
    let refused = c in
    let line = c in
    let text = c in
    next (next text.write_text-used.ensures line.write_count-used.ensures) refused.write_count.ensures

pub write_fault_spec : {M : Type 1} → statement M
write_fault_spec =
    tie.close
    (tie.spec
    (λ c κs. search rules) (λ c. search rules) (λ c. search rules) (λ c. search rules) (λ c κs. search rules) (λ c. search rules) (λ c. search rules)
    (λ c. search rules) (λ c. search rules) (λ c κs. search rules) (λ c. used-fits (returns c) (search rules)) (λ c. search rules) returns)
