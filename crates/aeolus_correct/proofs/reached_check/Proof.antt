use mathlib.Core.Path.{◌∙◌}
use Rattle.aeolus_rules_spec.specs.Action.{reached_check}
use borrow.Author.Rules.{rules}
use Rattle.aeolus_correct.proofs.reached_check.Statement.{statement}
use Rattle.aeolus_correct.proofs.reached_check.Tie as tie

pub reached_check_spec : {M : Type 1} → statement M
unfolding reached_check
reached_check_spec =
    tie.close
    (tie.spec
    (λ c κs. search rules) (λ c κs. search rules) (λ c κs. search rules) (λ c κs. search rules)
    (λ c. c.refuse_if-2.ensures ∙ rw (c.refuse_if.ensures, c.holds-met.ensures, c.holds-provided.ensures)))
