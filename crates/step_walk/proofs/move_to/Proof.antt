use borrow.Author.Tests.{ne_eqb}
use Rattle.rules_spec.specs.Action.{move_action, effect}
use borrow.Author.Rules.{rules}
use Rattle.step_walk.proofs.move_to.Statement.{statement}
use Rattle.step_walk.proofs.move_to.Tie as tie

pub move_to_spec : {M : Type 1} → statement M
unfolding move_action effect
move_to_spec = tie.close (tie.spec
    (λ c κs. search rules) (λ c κs. search rules) (λ c κs. search rules) (λ c κs. search rules) (λ c. rw c.in-1.is c.fire_to.ensures)
    (λ c. rw c.in-2.is c.end_to.ensures) (λ c. rw c.in-3.is c.enter_to.ensures)
    (λ c. let r = c.in_default.in_default-own.rest in rw (ne_eqb _ _ r.0.0.1, ne_eqb _ _ r.0.1, ne_eqb _ _ r.1) c.finish_to.ensures))
