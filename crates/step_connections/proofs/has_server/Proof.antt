use mathlib.Core.Path.{sym}
use Rattle.step_connections.proofs.Looks.{taken-looked}
use borrow.Author.Rules.{rules}
use Rattle.step_connections.proofs.has_server.Statement.{statement}
use Rattle.step_connections.proofs.has_server.Tie as tie

returns : tie.Need-returns
returns c = rw c.server_of.ensures (sym (taken-looked _ _ _))

pub has_server_spec : {M : Type 1} → statement M
has_server_spec = tie.close (tie.spec
    (λ c κs. search rules) returns)
