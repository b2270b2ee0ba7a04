use mathlib.Core.Path.{sym, ◌∙◌}
use borrow.Author.Rules.{rules}
use borrow.Author.Tests.{lt-ltb, le-ltb}
use Rattle.words.proofs.InState.{server-at}
use Rattle.words.proofs.state.server_of.Statement.{statement}
use Rattle.words.proofs.state.server_of.Tie as tie

returns : tie.Need-returns-then-q-lt16
returns c = rw (lt-ltb _ _ c.if-q-lt16.true) (c.cell.ensures ∙ sym (server-at _ _))

returns-2 : tie.Need-returns-else-q-lt16
returns-2 c = rw (le-ltb _ _ c.if-q-lt16.false)

pub server_of_spec : {M : Type 1} → statement M
server_of_spec = tie.close (tie.spec
    (λ c. search rules) (λ c. search rules) (λ c κs. search rules) returns returns-2)
