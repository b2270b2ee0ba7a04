use Rattle.sitting_spec.specs.Plan.{empty_plan}
use Rattle.sitting_lib.proofs.Ends.{plan-verdict}
use borrow.Author.Rules.{rules}
use Rattle.sitting_lib.proofs.plans.paper_verdict.Statement.{statement}
use Rattle.sitting_lib.proofs.plans.paper_verdict.Tie as tie

returns : tie.Need-returns
unfolding empty_plan
returns c = plan-verdict _ _ c.judge.ensures.0 (search rules)

pub paper_verdict_spec : {M : Type 1} → statement M
paper_verdict_spec = tie.close (tie.spec
    (λ c. search rules) (λ c κs. search rules) returns)
