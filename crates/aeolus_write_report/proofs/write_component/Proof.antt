use mathlib.Core.Path.{sym, ◌∙◌}
use Rattle.aeolus_judge_spec.specs.Report.{component_text, component_at}
use Rattle.write_report.proofs.Parts.{line-there, line-absent}
use borrow.Author.Rules.{rules}
use Rattle.aeolus_write_report.proofs.write_component.Statement.{statement}
use Rattle.aeolus_write_report.proofs.write_component.Tie as tie

pub write_component_spec : {M : Type 1} → statement M
unfolding component_at component_text
write_component_spec =
    tie.close
    (tie.spec
    (λ c κs. search rules) (λ c. line-absent _ (sym c.is_deployed.ensures ∙ c.if-not-is_deployed.true))
    (λ c κs. search rules) (λ c κs. search rules) (λ c κs. search rules) (λ c. search rules)
    (λ c. line-there (sym c.is_deployed.ensures ∙ c.if-not-is_deployed.false) (rw (c.kind_of-k.ensures, c.state_of-q.ensures) at c.write_three.ensures)))
