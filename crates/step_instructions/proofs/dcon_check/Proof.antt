use Rattle.rules_spec.specs.DCon.{dcon_check}
use borrow.Author.Rules.{rules}
use Rattle.step_instructions.proofs.dcon_check.Statement.{statement}
use Rattle.step_instructions.proofs.dcon_check.Tie as tie

pub dcon_check_spec : {M : Type 1} → statement M
unfolding dcon_check
dcon_check_spec = tie.close (tie.spec
    (λ c κs. search rules) (λ c κs. search rules) (λ c κs. search rules) (λ c κs. search rules)
    (λ c. rw (← c.stands-stands.ensures, ← c.active.ensures, ← c.refuse_if-late.ensures) c.refuse_if.ensures))
