use Rattle.write_items.proofs.Laws.{next}
use Rattle.aeolus_judge_spec.specs.Report.{head_part}
use borrow.Author.Rules.{rules}
use Rattle.aeolus_write_report.proofs.write_head.Statement.{statement}
use Rattle.aeolus_write_report.proofs.write_head.Tie as tie

pub write_head_spec : {M : Type 1} → statement M
unfolding head_part
write_head_spec =
    tie.close
    (tie.spec
    (λ c. search rules) (λ c κs. search rules) (λ c. search rules) (λ c. search rules) (λ c. search rules) (λ c. search rules) (λ c κs. search rules)
    (λ c. search rules) (λ c. search rules) (λ c. next c.write_count-used.ensures c.write_count.ensures))
