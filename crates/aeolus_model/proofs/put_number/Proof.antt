use Rattle.aeolus_model.proofs.Puts.{number_put}
use borrow.Author.Rules.{rules}
use Rattle.aeolus_model.proofs.put_number.Statement.{statement}
use Rattle.aeolus_model.proofs.put_number.Tie as tie

returns : tie.Need-returns
returns c = rw (c.put_in_area.ensures, c.number_place.ensures) (number_put _ c.put_in_area-arg-1.given.0.1 _ _ _ _ _)

pub put_number_spec : {M : Type 1} → statement M
put_number_spec = tie.close (tie.spec
    (λ c κs. search rules) (λ c κs. search rules) returns)
