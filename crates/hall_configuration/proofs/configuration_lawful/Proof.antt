use Rattle.hall_configuration.specs.Lawful.{configuration_lawful}
use borrow.Author.Rules.{rules}
use Rattle.hall_configuration.proofs.configuration_lawful.Statement.{statement}
use Rattle.hall_configuration.proofs.configuration_lawful.Tie as tie

returns : tie.Need-returns
unfolding configuration_lawful
returns c =
    let i = c in
    rw (← i.instances_lawful-instances.ensures, ← c.connections_lawful.ensures, ← i.instructions.ensures, ← i.done.ensures)

pub configuration_lawful_spec : {M : Type 1} → statement M
configuration_lawful_spec = tie.close (tie.spec
    (λ c κs. search rules) (λ c κs. search rules) (λ c κs. search rules) (λ c κs. search rules) returns)
