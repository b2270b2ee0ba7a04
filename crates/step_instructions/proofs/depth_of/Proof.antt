use borrow.Author.Tests.{eq-eqb, ne_eqb}
use borrow.Author.Rules.{rules}
use Rattle.step_instructions.proofs.depth_of.Statement.{statement}
use Rattle.step_instructions.proofs.depth_of.Tie as tie

returns : tie.Need-returns-then-own-eq0
returns c = rw (← c.depth-own.ensures, eq-eqb _ _ c.if-own-eq0.true)

returns-2 : tie.Need-returns-else-own-eq0
returns-2 c = rw (← c.depth-own.ensures, ne_eqb _ _ c.if-own-eq0.false)

pub depth_of_spec : {M : Type 1} → statement M
depth_of_spec = tie.close (tie.spec
    (λ c κs. search rules) returns returns-2)
