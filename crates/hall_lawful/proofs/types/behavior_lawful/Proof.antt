use Rattle.read_spec.specs.Lawful.{behavior_lawful}
use borrow.Author.Rules.{rules}
use Rattle.hall_lawful.proofs.types.behavior_lawful.Statement.{statement}
use Rattle.hall_lawful.proofs.types.behavior_lawful.Tie as tie

returns : tie.Need-returns
unfolding behavior_lawful
returns c = rw (← c.transitions_of.ensures, ← c.behavior_of.ensures) c.mask_ok.ensures

pub behavior_lawful_spec : {M : Type 1} → statement M
behavior_lawful_spec = tie.close (tie.spec
    (λ c κs. search rules) (λ c κs. search rules) (λ c κs. search rules) returns)
