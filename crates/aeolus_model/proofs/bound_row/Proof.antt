use Rattle.aeolus_model.specs.Words.{configuration_in}
use borrow.Author.Rules.{rules}
use Rattle.aeolus_model.proofs.bound_row.Statement.{statement}
use Rattle.aeolus_model.proofs.bound_row.Tie as tie

returns : tie.Need-returns
unfolding configuration_in
returns c = c.in_area.ensures

pub bound_row_spec : {M : Type 1} → statement M
bound_row_spec = tie.close (tie.spec
    (λ c κs. search rules) returns)
