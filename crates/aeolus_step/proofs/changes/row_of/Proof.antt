use borrow.Author.Rules.{rules}
use Rattle.aeolus_step.proofs.changes.row_of.Statement.{statement}
use Rattle.aeolus_step.proofs.changes.row_of.Tie as tie

returns : tie.Need-returns
returns c = rw (← c.kind_of.ensures, ← c.place_of.ensures)

pub row_of_spec : {M : Type 1} → statement M
row_of_spec = tie.close (tie.spec
    (λ c. search rules) (λ c κs. search rules) (λ c κs. search rules) (λ c. search rules) (λ c. search rules) returns)
