use Rattle.words.proofs.InState.{queued-put}
use borrow.Author.Rules.{rules}
use Rattle.words.proofs.state.put_queued.Statement.{statement}
use Rattle.words.proofs.state.put_queued.Tie as tie

returns : tie.Need-returns
returns c = rw c.put_row.ensures (queued-put _ _ c.put_row-arg-1.given.0.1 _)

pub put_queued_spec : {M : Type 1} → statement M
put_queued_spec = tie.close (tie.spec
    (λ c. search rules) (λ c κs. search rules) returns)
