use Rattle.write_items.proofs.Laws.{next}
use Rattle.aeolus_judge_spec.specs.Report.{bindings_text, bindings_part}
use borrow.Author.Rules.{rules}
use Rattle.aeolus_write_report.proofs.write_bindings.Statement.{statement}
use Rattle.aeolus_write_report.proofs.write_bindings.Tie as tie

pub write_bindings_spec : {M : Type 1} → statement M
unfolding bindings_part bindings_text
write_bindings_spec =
    tie.close
    (tie.spec
    (λ c κs. search rules) (λ c. search rules) (λ c κs. search rules) (λ c. search rules) (λ c. search rules) (λ c. search rules)
    (λ c κs. search rules) (λ c. search rules) (λ c. search rules)
    (λ c. next (rw c.bindings-n.ensures at c.write_count-used.ensures) c.write_binding_lines.ensures))
