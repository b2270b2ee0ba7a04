use borrow.Author.Tests.{eq-eqb, ne_eqb}
use borrow.Author.Rules.{rules}
use Rattle.aeolus_read_lines.proofs.above.Statement.{statement}
use Rattle.aeolus_read_lines.proofs.above.Tie as tie

pub above_spec : {M : Type 1} → statement M
above_spec =
    tie.close (tie.spec
    (λ c. rw (eq-eqb _ _ c.if-j-eq0.true)) (λ c. search rules) (λ c κs. search rules) (λ c. rw (ne_eqb _ _ c.if-j-eq0.false, c.name_of.ensures)))
