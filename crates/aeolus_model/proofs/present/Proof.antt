use Rattle.aeolus_model.specs.Words.{configuration_in}
use borrow.Author.Rules.{rules}
use Rattle.aeolus_model.proofs.present.Statement.{statement}
use Rattle.aeolus_model.proofs.present.Tie as tie

returns : tie.Need-returns
unfolding configuration_in
returns c = search rules

pub present_spec : {M : Type 1} → statement M
present_spec = tie.close (tie.spec
    (λ c. search rules) returns)
