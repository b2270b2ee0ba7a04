use borrow.Author.Rules.{rules}
use Rattle.aeolus_correct.proofs.is_deployed.Statement.{statement}
use Rattle.aeolus_correct.proofs.is_deployed.Tie as tie

returns : tie.Need-returns
returns c = rw (← c.present.ensures) c.member.ensures

pub is_deployed_spec : {M : Type 1} → statement M
is_deployed_spec = tie.close (tie.spec
    (λ c κs. search rules) (λ c κs. search rules) returns)
