use Rattle.aeolus_model.proofs.Puts.{plan-none}
use Rattle.aeolus_model.proofs.clear_plan.Statement.{statement}
use Rattle.aeolus_model.proofs.clear_plan.Tie as tie

returns : tie.Need-returns
returns c = plan-none

pub clear_plan_spec : {M : Type 1} → statement M
clear_plan_spec = tie.close (tie.spec
    returns)
