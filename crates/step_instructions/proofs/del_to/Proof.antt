use Rattle.rules_spec.specs.Del.{deleted}
use borrow.Author.Rules.{rules}
use Rattle.step_instructions.proofs.del_to.Statement.{statement}
use Rattle.step_instructions.proofs.del_to.Tie as tie

returns : tie.Need-returns
unfolding deleted
returns c = c.renew.ensures

pub del_to_spec : {M : Type 1} → statement M
del_to_spec = tie.close (tie.spec
    (λ c κs. search rules) returns)
