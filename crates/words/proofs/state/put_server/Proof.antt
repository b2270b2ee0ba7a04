use Rattle.words.proofs.InState.{server-put}
use borrow.Author.Rules.{rules}
use Rattle.words.proofs.state.put_server.Statement.{statement}
use Rattle.words.proofs.state.put_server.Tie as tie

returns : tie.Need-returns
returns c = rw c.put_row.ensures (server-put _ c.put_row-arg-1.given.0.1 _ _)

pub put_server_spec : {M : Type 1} → statement M
put_server_spec = tie.close (tie.spec
    (λ c. search rules) (λ c κs. search rules) returns)
