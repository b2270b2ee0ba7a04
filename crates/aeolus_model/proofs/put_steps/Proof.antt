use Rattle.aeolus_model.proofs.Puts.{steps-put}
use borrow.Author.Rules.{rules}
use Rattle.aeolus_model.proofs.put_steps.Statement.{statement}
use Rattle.aeolus_model.proofs.put_steps.Tie as tie

returns : tie.Need-returns
returns c = rw c.put_at.ensures (steps-put _ c.put_at-arg-1.given.0.1 _)

pub put_steps_spec : {M : Type 1} → statement M
put_steps_spec = tie.close (tie.spec
    (λ c κs. search rules) returns)
