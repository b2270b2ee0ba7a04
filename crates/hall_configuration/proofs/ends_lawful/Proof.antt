use Rattle.hall_configuration.specs.Lawful.{ends_lawful}
use borrow.Author.Rules.{rules}
use Rattle.hall_configuration.proofs.ends_lawful.Statement.{statement}
use Rattle.hall_configuration.proofs.ends_lawful.Tie as tie

returns : tie.Need-returns
unfolding ends_lawful
returns c = rw (← c.present-user.ensures, ← c.present-provider.ensures, ← c.is_port-uses.ensures, ← c.is_port-provides.ensures)

pub ends_lawful_spec : {M : Type 1} → statement M
ends_lawful_spec = tie.close (tie.spec
    (λ c κs. search rules) (λ c κs. search rules) (λ c κs. search rules) (λ c κs. search rules) returns)
