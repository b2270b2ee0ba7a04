use Rattle.words.proofs.InState.{done-put}
use borrow.Author.Rules.{rules}
use Rattle.words.proofs.state.put_done.Statement.{statement}
use Rattle.words.proofs.state.put_done.Tie as tie

returns : tie.Need-returns
returns c = rw c.put_at.ensures (done-put _ c.put_at-arg-1.given.0.1 _)

pub put_done_spec : {M : Type 1} → statement M
put_done_spec = tie.close (tie.spec
    (λ c κs. search rules) returns)
