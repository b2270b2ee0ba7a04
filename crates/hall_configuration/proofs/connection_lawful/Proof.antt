use borrow.Author.Tests.{eq-eqb, ne_eqb}
use borrow.Author.Rules.{rules}
use Rattle.hall_configuration.specs.Lawful.{connection_lawful}
use Rattle.hall_configuration.proofs.connection_lawful.Statement.{statement}
use Rattle.hall_configuration.proofs.connection_lawful.Tie as tie

pub connection_lawful_spec : {M : Type 1} → statement M
unfolding connection_lawful
connection_lawful_spec = tie.close (tie.spec
    (λ c κs. search rules) (λ c. rw (← c.server-x.ensures, eq-eqb _ _ c.if-x-eq0.true)) (λ c κs. search rules) (λ c κs. search rules)
    (λ c κs. search rules)
    (λ c. rw (← c.server-x.ensures, ne_eqb _ _ c.if-x-eq0.false, ← c.provider.ensures, ← c.provideport.ensures) c.ends_lawful.ensures))
