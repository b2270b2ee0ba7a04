use mathlib.Core.Path.{sym, ◌∙◌}
use Rattle.report_spec.specs.Report.{instance_at}
use Rattle.write_report.proofs.Parts.{line-there, line-absent}
use borrow.Author.Rules.{rules}
use Rattle.write_report.proofs.write_present.Statement.{statement}
use Rattle.write_report.proofs.write_present.Tie as tie

pub write_present_spec : {M : Type 1} → statement M
unfolding instance_at
write_present_spec =
    tie.close
    (tie.spec
    (λ c κs. search rules) (λ c κs. search rules) (λ c. search rules)
    (λ c.
    let here = c in
    line-there (sym here.present.ensures ∙ here.if-present.true) c.write_instance.ensures)
    (λ c. line-absent _ (sym c.present.ensures ∙ c.if-present.false)))
