use borrow.Author.Rules.{rules}
use Rattle.write_texts.proofs.faults.known_of.Statement.{statement}
use Rattle.write_texts.proofs.faults.known_of.Tie as tie

pub known_of_spec : {M : Type 1} → statement M
known_of_spec =
    tie.close
    (tie.spec
    (λ c κs. search rules) (λ c κs. search rules) (λ c κs. search rules)
    (λ c. rw (c.places_of-places.ensures, c.initial_of-initial.ensures, c.transitions_of-transitions.ensures)))
