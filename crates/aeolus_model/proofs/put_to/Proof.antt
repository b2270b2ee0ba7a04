use Rattle.aeolus_model.proofs.Puts.{to-put}
use borrow.Author.Rules.{rules}
use Rattle.aeolus_model.proofs.put_to.Statement.{statement}
use Rattle.aeolus_model.proofs.put_to.Tie as tie

returns : tie.Need-returns
returns c = rw c.put_in_area.ensures (to-put _ c.put_in_area-arg-1.given.0.1 _ _ _)

pub put_to_spec : {M : Type 1} → statement M
put_to_spec = tie.close (tie.spec
    (λ c. search rules) (λ c. search rules) (λ c κs. search rules) returns)
