use Rattle.aeolus_model.proofs.Puts.{name-put}
use borrow.Author.Rules.{rules}
use Rattle.aeolus_model.proofs.put_name.Statement.{statement}
use Rattle.aeolus_model.proofs.put_name.Tie as tie

returns : tie.Need-returns
returns c = rw c.put_in_area.ensures (name-put _ c.put_in_area-arg-1.given.0.1 _ _ _)

pub put_name_spec : {M : Type 1} → statement M
put_name_spec = tie.close (tie.spec
    (λ c. search rules) (λ c. search rules) (λ c κs. search rules) returns)
