use Rattle.aeolus_model.specs.Words.{universe_in}
use borrow.Author.Rules.{rules}
use Rattle.aeolus_model.proofs.number_at.Statement.{statement}
use Rattle.aeolus_model.proofs.number_at.Tie as tie

returns : tie.Need-returns
unfolding universe_in
returns c = rw c.number_place.ensures at c.in_area.ensures

pub number_at_spec : {M : Type 1} → statement M
number_at_spec = tie.close (tie.spec
    (λ c κs. search rules) (λ c κs. search rules) returns)
