use borrow.Author.Tests.{ne_eqb}
use Rattle.aeolus_model.specs.Action.{action_of}
use Rattle.aeolus_model.specs.Model.{with_state}
use Rattle.aeolus_rules_spec.specs.Change.{changed}
use Rattle.aeolus_rules_spec.specs.Action.{effect}
use borrow.Author.Rules.{rules}
use Rattle.aeolus_step.proofs.changes.carry_out.Statement.{statement}
use Rattle.aeolus_step.proofs.changes.carry_out.Tie as tie

pub carry_out_spec : {M : Type 1} → statement M
unfolding action_of effect changed with_state
carry_out_spec =
    tie.close (tie.spec
    (λ c κs. search rules) (λ c κs. search rules) (λ c κs. search rules) (λ c κs. search rules) (λ c κs. search rules)
    (λ c. rw c.in-0.is c.add_to.ensures) (λ c. rw c.in-1.is c.delete_to.ensures) (λ c. rw c.in-2.is c.put_state.ensures)
    (λ c. rw c.in-3.is c.bind_to.ensures)
    (λ c. let r = c.in_default.in_default-own.rest in rw (ne_eqb _ _ r.0.0.0.1, ne_eqb _ _ r.0.0.1, ne_eqb _ _ r.0.1, ne_eqb _ _ r.1) c.unbind_to.ensures))
