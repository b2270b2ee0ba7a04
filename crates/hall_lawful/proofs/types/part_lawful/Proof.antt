use Rattle.hall_lawful.specs.Parts.{part_lawful}
use borrow.Author.Rules.{rules}
use Rattle.hall_lawful.proofs.types.part_lawful.Statement.{statement}
use Rattle.hall_lawful.proofs.types.part_lawful.Tie as tie

returns : tie.Need-returns-in-Transition
unfolding part_lawful
returns c = rw c.in-Transition.is c.transition_lawful.ensures

returns-2 : tie.Need-returns-in-Behavior
unfolding part_lawful
returns-2 c = rw c.in-Behavior.is c.behavior_lawful.ensures

returns-3 : tie.Need-returns-in-Port
unfolding part_lawful
returns-3 c = rw c.in-Port.is c.port_lawful.ensures

pub part_lawful_spec : {M : Type 1} → statement M
part_lawful_spec = tie.close (tie.spec
    (λ c. search rules) (λ c κs. search rules) (λ c. search rules) (λ c κs. search rules) (λ c. search rules) (λ c κs. search rules) returns returns-2
    returns-3)
