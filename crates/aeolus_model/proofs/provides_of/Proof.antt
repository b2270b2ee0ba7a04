use Rattle.aeolus_model.proofs.Puts.{type_at}
use borrow.Author.Rules.{rules}
use Rattle.aeolus_model.proofs.provides_of.Statement.{statement}
use Rattle.aeolus_model.proofs.provides_of.Tie as tie

returns : tie.Need-returns
returns c = rw type_at c.in_area.ensures

pub provides_of_spec : {M : Type 1} → statement M
provides_of_spec = tie.close (tie.spec
    (λ c κs. search rules) returns)
