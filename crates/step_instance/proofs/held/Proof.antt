use borrow.Author.Rules.{rules}
use Rattle.step_instance.proofs.held.Statement.{statement}
use Rattle.step_instance.proofs.held.Tie as tie

returns : tie.Need-returns
returns c = rw (← c.running.ensures, ← c.ended.ensures) c.joined.ensures

pub held_spec : {M : Type 1} → statement M
held_spec = tie.close (tie.spec
    (λ c κs. search rules) (λ c κs. search rules) (λ c κs. search rules) returns)
