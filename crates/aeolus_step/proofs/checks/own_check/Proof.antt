use borrow.Author.Tests.{ne_eqb}
use Rattle.aeolus_model.specs.Action.{action_of}
use Rattle.aeolus_rules_spec.specs.Action.{check}
use Rattle.aeolus_rules_spec.specs.New.{new_check}
use Rattle.aeolus_rules_spec.specs.Del.{del_check}
use Rattle.aeolus_rules_spec.specs.Unbind.{unbind_check}
use borrow.Author.Rules.{rules}
use Rattle.aeolus_step.proofs.checks.own_check.Statement.{statement}
use Rattle.aeolus_step.proofs.checks.own_check.Tie as tie

pub own_check_spec : {M : Type 1} → statement M
unfolding action_of check new_check del_check unbind_check
own_check_spec =
    tie.close (tie.spec
    (λ c κs. search rules) (λ c κs. search rules) (λ c κs. search rules) (λ c κs. search rules) (λ c κs. search rules) (λ c κs. search rules)
    (λ c κs. search rules) (λ c κs. search rules) (λ c. rw (c.in-0.is, ← c.is_deployed.ensures) c.refuse_if.ensures)
    (λ c. rw (c.in-1.is, ← c.is_deployed-in-1.ensures) c.refuse_if-in-1.ensures) (λ c. rw c.in-2.is c.change_check.ensures)
    (λ c. rw c.in-3.is c.bind_check.ensures)
    (λ c. let r = c.in_default.in_default-own.rest in rw (ne_eqb _ _ r.0.0.0.1, ne_eqb _ _ r.0.0.1, ne_eqb _ _ r.0.1, ne_eqb _ _ r.1, ← c.is_bound-stands.ensures) c.refuse_if-in_default.ensures))
