use borrow.Author.Tests.{eq-eqb, ne_eqb}
use Rattle.write_texts.proofs.faults.or_number.Statement.{statement}
use Rattle.write_texts.proofs.faults.or_number.Tie as tie

pub or_number_spec : {M : Type 1} → statement M
or_number_spec = tie.close (tie.spec
    (λ c. rw (eq-eqb _ _ c.if-a-eq0.true)) (λ c. rw (ne_eqb _ _ c.if-a-eq0.false)))
