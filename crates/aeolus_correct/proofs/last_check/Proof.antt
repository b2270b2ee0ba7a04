use Rattle.aeolus_rules_spec.specs.Run.{last_check}
use borrow.Author.Rules.{rules}
use Rattle.aeolus_correct.proofs.last_check.Statement.{statement}
use Rattle.aeolus_correct.proofs.last_check.Tie as tie

pub last_check_spec : {M : Type 1} → statement M
unfolding last_check
last_check_spec = tie.close (tie.spec
    (λ c κs. search rules) (λ c κs. search rules) (λ c. rw (← c.holds.ensures) c.refuse_if.ensures))
