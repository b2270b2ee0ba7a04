use Rattle.write_items.proofs.Laws.{then}
use Rattle.sitting_spec.specs.Plan.{plan_block}
use Rattle.sitting_lib.proofs.Ends.{plan-ends}
use borrow.Author.Rules.{rules}
use Rattle.sitting_lib.proofs.plans.write_plan.Statement.{statement}
use Rattle.sitting_lib.proofs.plans.write_plan.Tie as tie

returns : tie.Need-returns
unfolding plan_block
returns c =
    let ends = then c.write_told-b.ensures c.write_key.ensures in
    then c.write_print-a.ensures (rw (plan-ends c.judge_and_place-judged.ensures (search rules)) at ends)

pub write_plan_spec : {M : Type 1} → statement M
write_plan_spec = tie.close (tie.spec
    (λ c. search rules) (λ c κs. search rules) (λ c κs. search rules) (λ c κs. search rules) (λ c κs. search rules) (λ c. search rules) returns)
