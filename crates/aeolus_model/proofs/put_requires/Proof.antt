use Rattle.aeolus_model.proofs.Puts.{requires-put}
use borrow.Author.Rules.{rules}
use Rattle.aeolus_model.proofs.put_requires.Statement.{statement}
use Rattle.aeolus_model.proofs.put_requires.Tie as tie

returns : tie.Need-returns
returns c = rw c.put_in_area.ensures (requires-put _ c.put_in_area-arg-1.given.0.1 _ _)

pub put_requires_spec : {M : Type 1} → statement M
put_requires_spec = tie.close (tie.spec
    (λ c κs. search rules) returns)
