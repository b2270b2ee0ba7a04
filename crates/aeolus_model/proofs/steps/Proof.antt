use Rattle.aeolus_model.specs.Words.{plan_in}
use borrow.Author.Rules.{rules}
use Rattle.aeolus_model.proofs.steps.Statement.{statement}
use Rattle.aeolus_model.proofs.steps.Tie as tie

returns : tie.Need-returns
unfolding plan_in
returns c = search rules

pub steps_spec : {M : Type 1} → statement M
steps_spec = tie.close (tie.spec
    (λ c. search rules) returns)
