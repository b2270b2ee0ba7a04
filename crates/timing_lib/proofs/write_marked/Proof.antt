use Rattle.write_items.proofs.Laws.{next, used-fits}
use Rattle.timing_spec.specs.Timed.{marked_report}
use borrow.Author.Rules.{rules}
use Rattle.timing_lib.proofs.write_marked.Statement.{statement}
use Rattle.timing_lib.proofs.write_marked.Tie as tie

returns : tie.Need-returns
unfolding marked_report
returns c = next c.write_report-used.ensures c.write_count.ensures

pub write_marked_spec : {M : Type 1} → statement M
write_marked_spec =
    tie.close
    (tie.spec
    (λ c κs. search rules) (λ c. search rules) (λ c. search rules) (λ c. search rules) (λ c κs. search rules)
    (λ c. used-fits (returns c) (search rules)) (λ c. search rules) returns)
