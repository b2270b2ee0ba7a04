use Rattle.aeolus_model.specs.Words.{configuration_in}
use borrow.Author.Rules.{rules}
use Rattle.aeolus_model.proofs.kind_of.Statement.{statement}
use Rattle.aeolus_model.proofs.kind_of.Tie as tie

returns : tie.Need-returns
unfolding configuration_in
returns c = c.in_area.ensures

pub kind_of_spec : {M : Type 1} → statement M
kind_of_spec = tie.close (tie.spec
    (λ c κs. search rules) returns)
