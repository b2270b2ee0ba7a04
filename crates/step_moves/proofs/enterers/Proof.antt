use borrow.Author.Rules.{rules}
use Rattle.step_moves.proofs.enterers.Statement.{statement}
use Rattle.step_moves.proofs.enterers.Tie as tie

returns : tie.Need-returns
returns c = rw (← c.kind.ensures, ← c.behavior.ensures) c.entering.ensures

pub enterers_spec : {M : Type 1} → statement M
enterers_spec = tie.close (tie.spec
    (λ c κs. search rules) (λ c κs. search rules) (λ c κs. search rules) returns)
