use borrow.Author.Rules.{rules}
use borrow.Author.Tests.{eq-eqb, ne_eqb}
use Rattle.step_moves.proofs.asked.Statement.{statement}
use Rattle.step_moves.proofs.asked.Tie as tie

pub asked_spec : {M : Type 1} → statement M
asked_spec =
    tie.close
    (tie.spec
    (λ c κs. search rules) (λ c. rw (ne_eqb _ _ c.if-refused-ne0.true) c.about_none.ensures) (λ c κs. search rules)
    (λ c. rw (eq-eqb _ _ c.if-refused-ne0.false) c.port_check.ensures))
