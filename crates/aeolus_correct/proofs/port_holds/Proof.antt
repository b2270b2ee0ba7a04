use Rattle.aeolus_rules_spec.specs.Correct.{port_holds}
use borrow.Author.Rules.{rules}
use Rattle.aeolus_correct.proofs.port_holds.Statement.{statement}
use Rattle.aeolus_correct.proofs.port_holds.Tie as tie

asked-requires : tie.Need-asked-requires
asked-requires c κs = c.requires

returns : tie.Need-returns
unfolding port_holds
returns c = rw (← c.kind_of-k.ensures, ← c.name_of-r.ensures, ← c.state_of.ensures, ← c.number_at-x.ensures) c.asked.ensures

pub port_holds_spec : {M : Type 1} → statement M
port_holds_spec = tie.close (tie.spec
    (λ c κs. search rules) (λ c κs. search rules) (λ c κs. search rules) (λ c κs. search rules) asked-requires returns)
