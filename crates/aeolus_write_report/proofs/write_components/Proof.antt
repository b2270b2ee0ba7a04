use Rattle.write_items.proofs.Laws.{next}
use Rattle.aeolus_judge_spec.specs.Report.{components_text, components_part}
use borrow.Author.Rules.{rules}
use Rattle.aeolus_write_report.proofs.write_components.Statement.{statement}
use Rattle.aeolus_write_report.proofs.write_components.Tie as tie

pub write_components_spec : {M : Type 1} → statement M
unfolding components_part components_text
write_components_spec =
    tie.close
    (tie.spec
    (λ c κs. search rules) (λ c κs. search rules) (λ c. search rules) (λ c κs. search rules) (λ c. search rules) (λ c. search rules)
    (λ c. search rules) (λ c κs. search rules) (λ c. search rules) (λ c. search rules)
    (λ c. next (rw (c.size_of-n.ensures, c.present.ensures) at c.write_count-used.ensures) c.write_component_lines.ensures))
