use Rattle.aeolus_model.specs.Words.{universe_in}
use borrow.Author.Rules.{rules}
use Rattle.aeolus_model.proofs.types.Statement.{statement}
use Rattle.aeolus_model.proofs.types.Tie as tie

returns : tie.Need-returns
unfolding universe_in
returns c = search rules

pub types_spec : {M : Type 1} → statement M
types_spec = tie.close (tie.spec
    (λ c. search rules) returns)
