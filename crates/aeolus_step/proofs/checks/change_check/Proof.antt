use Rattle.aeolus_rules_spec.specs.Change.{change_check}
use borrow.Author.Rules.{rules}
use Rattle.aeolus_step.proofs.checks.change_check.Statement.{statement}
use Rattle.aeolus_step.proofs.checks.change_check.Tie as tie

pub change_check_spec : {M : Type 1} → statement M
unfolding change_check
change_check_spec =
    tie.close (tie.spec
    (λ c κs. search rules) (λ c κs. search rules) (λ c κs. search rules) (λ c κs. search rules) (λ c κs. search rules) (λ c κs. search rules)
    (λ c κs. search rules) (λ c κs. search rules)
    (λ c. rw (← c.is_deployed-here.ensures, ← c.state_of.ensures, ← c.kind_of.ensures, ← c.to_of.ensures, ← c.member-leads.ensures, ← c.refuse_if.ensures, ← c.refuse_if-2.ensures)
    c.refuse_if-3.ensures))
