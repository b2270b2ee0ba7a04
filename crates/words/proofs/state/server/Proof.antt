use mathlib.Core.Path.{sym, ◌∙◌}
use Rattle.words.proofs.InState.{server-at}
use borrow.Author.Rules.{rules}
use Rattle.words.proofs.state.server.Statement.{statement}
use Rattle.words.proofs.state.server.Tie as tie

returns : tie.Need-returns
returns c = c.cell.ensures ∙ sym (server-at _ _)

pub server_spec : {M : Type 1} → statement M
server_spec = tie.close (tie.spec
    (λ c κs. search rules) returns)
