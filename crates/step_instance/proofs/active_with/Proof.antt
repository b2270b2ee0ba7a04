use borrow.Author.Rules.{rules}
use Rattle.step_instance.proofs.active_with.Statement.{statement}
use Rattle.step_instance.proofs.active_with.Tie as tie

returns : tie.Need-returns
returns c =
    let o = c in
    rw (← o.group_places.ensures, ← o.overlaps.ensures, ← c.group_transitions.ensures, ← c.overlaps-2.ensures)

pub active_with_spec : {M : Type 1} → statement M
active_with_spec = tie.close (tie.spec
    (λ c κs. search rules) (λ c κs. search rules) (λ c κs. search rules) (λ c κs. search rules) returns)
