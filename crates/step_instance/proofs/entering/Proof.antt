use Rattle.rules_spec.specs.Instance.{entering}
use borrow.Author.Rules.{rules}
use Rattle.step_instance.proofs.entering.Statement.{statement}
use Rattle.step_instance.proofs.entering.Tie as tie

returns : tie.Need-returns
unfolding entering
returns c = c.ending_at.ensures

pub entering_spec : {M : Type 1} → statement M
entering_spec = tie.close (tie.spec
    (λ c κs. search rules) returns)
