use Rattle.aeolus_model.proofs.Puts.{provides-put}
use borrow.Author.Rules.{rules}
use Rattle.aeolus_model.proofs.put_provides.Statement.{statement}
use Rattle.aeolus_model.proofs.put_provides.Tie as tie

returns : tie.Need-returns
returns c = rw c.put_in_area.ensures (provides-put _ c.put_in_area-arg-1.given.0.1 _ _)

pub put_provides_spec : {M : Type 1} → statement M
put_provides_spec = tie.close (tie.spec
    (λ c κs. search rules) returns)
