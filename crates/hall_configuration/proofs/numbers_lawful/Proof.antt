use Rattle.hall_configuration.specs.Lawful.{numbers_lawful}
use borrow.Author.Rules.{rules}
use Rattle.hall_configuration.proofs.numbers_lawful.Statement.{statement}
use Rattle.hall_configuration.proofs.numbers_lawful.Tie as tie

pub numbers_lawful_spec : {M : Type 1} → statement M
unfolding numbers_lawful
numbers_lawful_spec = tie.close (tie.spec
    (λ c κs. search rules) (λ c κs. search rules) (λ c κs. search rules) (λ c κs. search rules) (λ c κs. search rules) (λ c κs. search rules)
    (λ c κs. search rules) (λ c κs. search rules) (λ c κs. search rules) (λ c κs. search rules) (λ c κs. search rules)
    (λ c. rw (← c.kind-k.ensures, ← c.places_of.ensures, ← c.marked.ensures, ← c.mask_ok-marks.ensures, ← c.transitions_of-n.ensures, ← c.running.ensures, ← c.mask_ok-runs.ensures, ← c.ended.ensures, ← c.mask_ok-ends.ensures, ← c.queue_lawful-queue.ensures, ← c.types.ensures)))
