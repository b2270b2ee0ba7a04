use Rattle.hall_configuration.specs.Lawful.{queued_lawful}
use borrow.Author.Rules.{rules}
use Rattle.hall_configuration.proofs.queued_lawful.Statement.{statement}
use Rattle.hall_configuration.proofs.queued_lawful.Tie as tie

returns : tie.Need-returns
unfolding queued_lawful
returns c = rw (← c.slot.ensures, ← c.kind.ensures, ← c.behaviors_of.ensures)

pub queued_lawful_spec : {M : Type 1} → statement M
queued_lawful_spec = tie.close (tie.spec
    (λ c κs. search rules) (λ c κs. search rules) (λ c κs. search rules) returns)
