use Rattle.rules_spec.specs.Instance.{active}
use borrow.Author.Rules.{rules}
use Rattle.step_instance.proofs.active.Statement.{statement}
use Rattle.step_instance.proofs.active.Tie as tie

returns : tie.Need-returns
unfolding active
returns c = rw (← c.kind.ensures, ← c.marked.ensures, ← c.held.ensures) c.active_with.ensures

pub active_spec : {M : Type 1} → statement M
active_spec = tie.close (tie.spec
    (λ c κs. search rules) (λ c κs. search rules) (λ c κs. search rules) (λ c κs. search rules) returns)
