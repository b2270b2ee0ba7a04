use mathlib.Core.Path.{sym}
use Rattle.step_connections.proofs.Looks.{same-looked}
use borrow.Author.Rules.{rules}
use Rattle.step_connections.proofs.stands.Statement.{statement}
use Rattle.step_connections.proofs.stands.Tie as tie

returns : tie.Need-returns
returns c = rw (c.provideport.ensures, c.provider.ensures, c.server_of-x.ensures) (sym (same-looked _ _ _ _ _))

pub stands_spec : {M : Type 1} → statement M
stands_spec = tie.close (tie.spec
    (λ c κs. search rules) (λ c κs. search rules) (λ c κs. search rules) returns)
