use borrow.Author.Tests.{eq-eqb, ne_eqb}
use Rattle.page_spec.specs.Page.{begins}
use borrow.Author.Rules.{rules}
use Rattle.page_lib.proofs.reports.begins_line.Statement.{statement}
use Rattle.page_lib.proofs.reports.begins_line.Tie as tie

pub begins_line_spec : {M : Type 1} → statement M
unfolding begins
begins_line_spec =
    tie.close
    (tie.spec
    (λ c. rw (eq-eqb _ _ c.if-i-eq0.true, begins)) (λ c. search rules) (λ c κs. search rules)
    (λ c. rw (ne_eqb _ _ c.if-i-eq0.false, begins, c.at_or.ensures)))
