use Rattle.rules_spec.specs.DCon.{disconnected}
use borrow.Author.Rules.{rules}
use Rattle.step_connections.proofs.disconnect.Statement.{statement}
use Rattle.step_connections.proofs.disconnect.Tie as tie

returns : tie.Need-returns
unfolding disconnected
returns c = λ v p. c.put_server.ensures

pub disconnect_spec : {M : Type 1} → statement M
disconnect_spec = tie.close (tie.spec
    (λ c. search rules) (λ c. search rules) (λ c κs. search rules) returns)
