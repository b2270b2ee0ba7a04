use Rattle.aeolus_model.proofs.Puts.{count-put}
use borrow.Author.Rules.{rules}
use Rattle.aeolus_model.proofs.put_types.Statement.{statement}
use Rattle.aeolus_model.proofs.put_types.Tie as tie

returns : tie.Need-returns
returns c = rw c.put_at.ensures (count-put _ c.put_at-arg-1.given.0.1 _)

pub put_types_spec : {M : Type 1} → statement M
put_types_spec = tie.close (tie.spec
    (λ c κs. search rules) returns)
