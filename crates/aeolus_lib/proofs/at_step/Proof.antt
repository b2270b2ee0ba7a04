use native.Mathlib.Omega.{arith}
use borrow.Author.Tests.{eq-eqb, ne_eqb}
use Rattle.aeolus_judge_spec.specs.Judged.{at_step}
use Rattle.aeolus_lib.proofs.at_step.Statement.{statement}
use Rattle.aeolus_lib.proofs.at_step.Tie as tie

returns : tie.Need-returns-then-after_all
unfolding at_step
returns c = rw (eq-eqb _ 70 c.if-after_all.true)

returns-2 : tie.Need-returns
unfolding at_step
returns-2 c = rw (ne_eqb _ 70 c.if-after_all.false)

pub at_step_spec : {M : Type 1} → statement M
at_step_spec = tie.close (tie.spec
    returns (λ c. omega arith) returns-2)
