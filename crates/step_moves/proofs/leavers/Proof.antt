use borrow.Author.Rules.{rules}
use Rattle.step_moves.proofs.leavers.Statement.{statement}
use Rattle.step_moves.proofs.leavers.Tie as tie

returns : tie.Need-returns
returns c = rw (← c.kind.ensures, ← c.behavior.ensures) c.leaving.ensures

pub leavers_spec : {M : Type 1} → statement M
leavers_spec = tie.close (tie.spec
    (λ c κs. search rules) (λ c κs. search rules) (λ c κs. search rules) returns)
