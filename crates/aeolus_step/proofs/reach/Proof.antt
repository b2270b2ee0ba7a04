use Rattle.aeolus_step.proofs.Acts.{reach-refused, reach-made}
use borrow.Author.Rules.{rules}
use Rattle.aeolus_step.proofs.reach.Statement.{statement}
use Rattle.aeolus_step.proofs.reach.Tie as tie

returns : tie.Need-returns-then-refused-ne0
returns c = let k = c in reach-refused _ _ _ _ _ k.reached_check-refused.ensures k.carry_out.ensures c.if-refused-ne0.true

returns-2 : tie.Need-returns
returns-2 c = let k = c in reach-made _ _ _ _ _ k.reached_check-refused.ensures k.carry_out.ensures c.if-refused-ne0.false

pub reach_spec : {M : Type 1} → statement M
reach_spec = tie.close (tie.spec
    (λ c κs. search rules) (λ c κs. search rules) returns returns-2)
