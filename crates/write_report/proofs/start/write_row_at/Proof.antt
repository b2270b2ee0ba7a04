use mathlib.Core.Path.{sym, ◌∙◌}
use Rattle.start_spec.specs.Round.{row_at}
use Rattle.write_report.proofs.Parts.{line-there, line-absent}
use borrow.Author.Rules.{rules}
use Rattle.write_report.proofs.start.write_row_at.Statement.{statement}
use Rattle.write_report.proofs.start.write_row_at.Tie as tie

pub write_row_at_spec : {M : Type 1} → statement M
unfolding row_at
write_row_at_spec =
    tie.close
    (tie.spec
    (λ c κs. search rules) (λ c κs. search rules) (λ c κs. search rules) (λ c. search rules)
    (λ c.
    let row = c in
    let here = c in
    line-there (sym here.present.ensures ∙ here.if-present.true) (rw row.at_or.ensures at row.write_row.ensures))
    (λ c. line-absent _ (sym c.present.ensures ∙ c.if-present.false)))
