use mathlib.Core.Path.{sym, ◌∙◌}
use Rattle.aeolus_judge_spec.specs.Report.{bindings_at}
use Rattle.write_report.proofs.Parts.{line-there, line-absent}
use Rattle.aeolus_write_report.proofs.Tests.{first-fails, second-fails, both_hold}
use borrow.Author.Rules.{rules}
use Rattle.aeolus_write_report.proofs.write_requirer.Statement.{statement}
use Rattle.aeolus_write_report.proofs.write_requirer.Tie as tie

pub write_requirer_spec : {M : Type 1} → statement M
unfolding bindings_at
write_requirer_spec =
    tie.close
    (tie.spec
    (λ c κs. search rules) (λ c. line-absent _ (first-fails _ (sym c.is_deployed.ensures ∙ c.if-not-is_deployed.true)))
    (λ c κs. search rules) (λ c κs. search rules)
    (λ c. line-absent _ (second-fails (sym c.is_deployed.ensures ∙ c.if-not-is_deployed.false) (rw c.kind_of-k.ensures at (sym c.lists.ensures ∙ c.if-not-lists.true))))
    (λ c κs. search rules) (λ c κs. search rules) (λ c κs. search rules) (λ c. search rules)
    (λ c. line-there (both_hold (sym c.is_deployed.ensures ∙ c.if-not-is_deployed.false) (rw c.kind_of-k.ensures at (sym c.lists.ensures ∙ c.if-not-lists.false))) (rw (c.bound_at-m.ensures, c.place_of.ensures, c.kind_of-k.ensures) at c.write_providers.ensures)))
