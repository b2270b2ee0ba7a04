use Rattle.rules_spec.specs.Instance.{leaving}
use borrow.Author.Rules.{rules}
use Rattle.step_instance.proofs.leaving.Statement.{statement}
use Rattle.step_instance.proofs.leaving.Tie as tie

returns : tie.Need-returns
unfolding leaving
returns c = c.ending_at.ensures

pub leaving_spec : {M : Type 1} → statement M
leaving_spec = tie.close (tie.spec
    (λ c κs. search rules) returns)
