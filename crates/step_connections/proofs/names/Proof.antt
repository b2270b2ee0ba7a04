use Rattle.model.specs.View.{is_served}
use Rattle.rules_spec.specs.Del.{named_by}
use borrow.Author.Rules.{rules}
use Rattle.step_connections.proofs.names.Statement.{statement}
use Rattle.step_connections.proofs.names.Tie as tie

returns : tie.Need-returns
unfolding named_by is_served
returns c = rw (← c.server-x.ensures, ← c.provider.ensures)

pub names_spec : {M : Type 1} → statement M
names_spec = tie.close (tie.spec
    (λ c κs. search rules) (λ c κs. search rules) returns)
