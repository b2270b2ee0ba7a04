use borrow.Author.Tests.{ne_eqb}
use Rattle.rules_spec.specs.Action.{move_action, action_check, concern}
use borrow.Author.Rules.{rules}
use Rattle.step_walk.proofs.move_check.Statement.{statement}
use Rattle.step_walk.proofs.move_check.Tie as tie

returns : tie.Need-returns-in-1
unfolding move_action action_check concern
returns c = λ default. rw c.in-1.is c.fire_check.ensures

returns-2 : tie.Need-returns-in-2
unfolding move_action action_check concern
returns-2 c = λ default. rw (c.in-2.is, ← c.end_check.ensures) c.about_none.ensures

returns-3 : tie.Need-returns-in-3
unfolding move_action action_check concern
returns-3 c = λ default. rw c.in-3.is c.enter_check.ensures

returns-4 : tie.Need-returns-in_default
unfolding move_action action_check concern
returns-4 c = λ default.
    let r = c.in_default.in_default-own.rest in
    rw (ne_eqb _ _ r.0.0.1, ne_eqb _ _ r.0.1, ne_eqb _ _ r.1, ← c.finish_check.ensures) c.about_none-in_default.ensures

pub move_check_spec : {M : Type 1} → statement M
move_check_spec = tie.close (tie.spec
    (λ c κs. search rules) (λ c κs. search rules) (λ c κs. search rules) (λ c κs. search rules) (λ c κs. search rules) (λ c κs. search rules) returns
    returns-2 returns-3 returns-4)
