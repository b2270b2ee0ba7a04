use mathlib.Core.Path.{◌∙◌}
use borrow.Author.Rules.{rules}
use Rattle.write_verbs.proofs.step_fault.Statement.{statement}
use Rattle.write_verbs.proofs.step_fault.Tie as tie

pub step_fault_spec : {M : Type 1} → statement M
step_fault_spec =
    tie.close
    (tie.spec
    (λ c κs. search rules) (λ c κs. search rules) (λ c. c.verb_fault.ensures ∙ c.step_verb.ensures.fault-is _ _ _ _))
