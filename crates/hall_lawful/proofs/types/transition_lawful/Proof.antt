use Rattle.read_spec.specs.Lawful.{transition_lawful}
use borrow.Author.Rules.{rules}
use Rattle.hall_lawful.proofs.types.transition_lawful.Statement.{statement}
use Rattle.hall_lawful.proofs.types.transition_lawful.Tie as tie

returns : tie.Need-returns
unfolding transition_lawful
returns c = rw (← c.source-from.ensures, ← c.destination-to.ensures, ← c.places_of-n.ensures)

pub transition_lawful_spec : {M : Type 1} → statement M
transition_lawful_spec = tie.close (tie.spec
    (λ c κs. search rules) (λ c κs. search rules) (λ c κs. search rules) returns)
