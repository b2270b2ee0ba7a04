use Rattle.aeolus_model.specs.Words.{universe_in}
use borrow.Author.Rules.{rules}
use Rattle.aeolus_model.proofs.name_of.Statement.{statement}
use Rattle.aeolus_model.proofs.name_of.Tie as tie

returns : tie.Need-returns
unfolding universe_in
returns c = c.in_area.ensures

pub name_of_spec : {M : Type 1} → statement M
name_of_spec = tie.close (tie.spec
    (λ c. search rules) (λ c. search rules) (λ c κs. search rules) returns)
