use borrow.Author.Rules.{rules}
use Rattle.step_moves.proofs.row.Statement.{statement}
use Rattle.step_moves.proofs.row.Tie as tie

returns : tie.Need-returns
returns c = rw (← c.refuse_if-late.ensures, ← c.refuse_if.ensures) c.refuse_if-2.ensures

pub row_spec : {M : Type 1} → statement M
row_spec = tie.close (tie.spec
    (λ c κs. search rules) (λ c κs. search rules) (λ c κs. search rules) returns)
