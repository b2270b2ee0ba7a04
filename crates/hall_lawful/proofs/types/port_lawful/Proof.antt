use Rattle.read_spec.specs.Lawful.{port_lawful}
use borrow.Author.Rules.{rules}
use Rattle.hall_lawful.proofs.types.port_lawful.Statement.{statement}
use Rattle.hall_lawful.proofs.types.port_lawful.Tie as tie

pub port_lawful_spec : {M : Type 1} → statement M
unfolding port_lawful
port_lawful_spec = tie.close (tie.spec
    (λ c κs. search rules) (λ c κs. search rules) (λ c κs. search rules) (λ c κs. search rules) (λ c κs. search rules) (λ c κs. search rules)
    (λ c κs. search rules) (λ c κs. search rules) (λ c κs. search rules)
    (λ c. rw (← c.port_kind-kind.ensures, ← c.group_places-group.ensures, ← c.group_transitions-held.ensures, ← c.initial_of.ensures, ← c.overlaps-apart.ensures, ← c.places_of.ensures, ← c.mask_ok-places.ensures, ← c.transitions_of.ensures, ← c.mask_ok.ensures)))
