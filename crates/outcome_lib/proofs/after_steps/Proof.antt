use borrow.Author.Tests.{eq-eqb, ne_eqb}
use Rattle.outcome_lib.proofs.after_steps.Statement.{statement}
use Rattle.outcome_lib.proofs.after_steps.Tie as tie

returns : tie.Need-returns-then-refused-ne0
returns c = rw (ne_eqb _ _ c.if-refused-ne0.true)

returns-2 : tie.Need-returns-then-ended
returns-2 c = rw (eq-eqb _ _ c.if-refused-ne0.false, c.if-ended.true)

returns-3 : tie.Need-returns
returns-3 c = rw (eq-eqb _ _ c.if-refused-ne0.false, c.if-ended.false)

pub after_steps_spec : {M : Type 1} → statement M
after_steps_spec = tie.close (tie.spec
    returns returns-2 returns-3)
