use Rattle.aeolus_model.proofs.Puts.{present-put}
use borrow.Author.Rules.{rules}
use Rattle.aeolus_model.proofs.put_present.Statement.{statement}
use Rattle.aeolus_model.proofs.put_present.Tie as tie

returns : tie.Need-returns
returns c = rw c.put_at.ensures (present-put _ c.put_at-arg-1.given.0.1 _)

pub put_present_spec : {M : Type 1} → statement M
put_present_spec = tie.close (tie.spec
    (λ c κs. search rules) returns)
