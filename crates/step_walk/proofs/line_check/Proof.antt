use native.Mathlib.Omega.{arith}
use Rattle.rules_spec.specs.Action.{instruction_action, action_check}
use borrow.Author.Rules.{rules}
use borrow.Author.Tests.{ne_eqb}
use Rattle.step_walk.proofs.line_check.Statement.{statement}
use Rattle.step_walk.proofs.line_check.Tie as tie

pub line_check_spec : {M : Type 1} → statement M
unfolding instruction_action action_check
line_check_spec =
    tie.close
    (tie.spec
    (λ c κs. search rules) (λ c κs. search rules) (λ c κs. search rules) (λ c κs. search rules) (λ c κs. search rules) (λ c κs. search rules)
    (λ c κs. search rules) (λ c κs. search rules) (λ c. (rw c.in-0.is c.add_check.ensures, λ l e. rw c.in-0.is (omega arith)))
    (λ c. (rw c.in-1.is c.del_check.ensures, λ l e. rw c.in-1.is (omega arith)))
    (λ c. (rw c.in-2.is c.pushb_check.ensures.0, λ l e. rw c.in-2.is (c.pushb_check.ensures.1 e)))
    (λ c. (rw c.in-3.is c.con_check.ensures, λ l e. rw c.in-3.is (omega arith)))
    (λ c. (rw c.in-4.is c.dcon_check.ensures, λ l e. rw c.in-4.is (omega arith)))
    (λ c. (rw c.in-6.is c.push_ticket_check.ensures.0, λ l e. rw c.in-6.is (c.push_ticket_check.ensures.1 e)))
    (λ c. (rw c.in-7.is c.wait_ticket_check.ensures, λ l e. rw c.in-7.is (omega arith)))
    (λ c. let r = c.in_default.in_default-own.rest in (
      rw (ne_eqb _ _ r.0.0.0.0.0.0.1, ne_eqb _ _ r.0.0.0.0.0.1, ne_eqb _ _ r.0.0.0.0.1, ne_eqb _ _ r.0.0.0.1, ne_eqb _ _ r.0.0.1, ne_eqb _ _ r.0.1, ne_eqb _ _ r.1) c.wait_check.ensures,
      λ l e. rw (ne_eqb _ _ r.0.0.0.0.0.0.1, ne_eqb _ _ r.0.0.0.0.0.1, ne_eqb _ _ r.0.0.0.0.1, ne_eqb _ _ r.0.0.0.1, ne_eqb _ _ r.0.0.1, ne_eqb _ _ r.0.1, ne_eqb _ _ r.1) (omega arith),
    )))
