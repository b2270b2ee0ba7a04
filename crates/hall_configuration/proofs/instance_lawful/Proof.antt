use Rattle.hall_configuration.specs.Lawful.{instance_lawful}
use borrow.Author.Rules.{rules}
use Rattle.hall_configuration.proofs.instance_lawful.Statement.{statement}
use Rattle.hall_configuration.proofs.instance_lawful.Tie as tie

returns : tie.Need-returns-then-not-present
unfolding instance_lawful
returns c = rw (← c.present.ensures, c.if-not-present.true)

returns-2 : tie.Need-returns
unfolding instance_lawful
returns-2 c = rw (← c.present.ensures, c.if-not-present.false) c.numbers_lawful.ensures

pub instance_lawful_spec : {M : Type 1} → statement M
instance_lawful_spec = tie.close (tie.spec
    (λ c κs. search rules) returns (λ c κs. search rules) returns-2)
