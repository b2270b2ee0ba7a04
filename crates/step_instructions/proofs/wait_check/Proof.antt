use Rattle.rules_spec.specs.Wait.{wait_check}
use borrow.Author.Rules.{rules}
use Rattle.step_instructions.proofs.wait_check.Statement.{statement}
use Rattle.step_instructions.proofs.wait_check.Tie as tie

pub wait_check_spec : {M : Type 1} → statement M
unfolding wait_check
wait_check_spec = tie.close (tie.spec
    (λ c κs. search rules) (λ c κs. search rules) (λ c κs. search rules) (λ c κs. search rules)
    (λ c. rw (← c.present-here.ensures, ← c.queued.ensures, ← c.refuse_if-late.ensures) c.refuse_if.ensures))
