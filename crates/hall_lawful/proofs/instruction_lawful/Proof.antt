use Rattle.read_spec.specs.Lawful.{instruction_lawful}
use borrow.Author.Rules.{rules}
use Rattle.hall_lawful.proofs.instruction_lawful.Statement.{statement}
use Rattle.hall_lawful.proofs.instruction_lawful.Tie as tie

pub instruction_lawful_spec : {M : Type 1} → statement M
unfolding instruction_lawful
instruction_lawful_spec =
    tie.close (tie.spec
    (λ c κs. search rules) (λ c κs. search rules) (λ c. rw (← c.instruction-k.ensures, c.verb_lawful.ensures)))
