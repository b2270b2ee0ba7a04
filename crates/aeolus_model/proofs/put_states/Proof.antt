use Rattle.aeolus_model.proofs.Puts.{states-put}
use borrow.Author.Rules.{rules}
use Rattle.aeolus_model.proofs.put_states.Statement.{statement}
use Rattle.aeolus_model.proofs.put_states.Tie as tie

returns : tie.Need-returns
returns c = rw c.put_in_area.ensures (states-put _ c.put_in_area-arg-1.given.0.1 _ _)

pub put_states_spec : {M : Type 1} → statement M
put_states_spec = tie.close (tie.spec
    (λ c κs. search rules) returns)
