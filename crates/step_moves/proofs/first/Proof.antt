use borrow.Author.Rules.{rules}
use Rattle.step_moves.proofs.first.Statement.{statement}
use Rattle.step_moves.proofs.first.Tie as tie

returns : tie.Need-returns
returns c = rw (← c.present.ensures, ← c.queued.ensures, ← c.refuse_if.ensures) c.refuse_if-2.ensures

pub first_spec : {M : Type 1} → statement M
first_spec = tie.close (tie.spec
    (λ c κs. search rules) (λ c κs. search rules) (λ c κs. search rules) (λ c κs. search rules) returns)
