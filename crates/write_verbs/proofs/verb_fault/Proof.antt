use mathlib.Core.Path.{◌∙◌}
use borrow.Author.Rules.{rules}
use Rattle.write_verbs.proofs.verb_fault.Statement.{statement}
use Rattle.write_verbs.proofs.verb_fault.Tie as tie

pub verb_fault_spec : {M : Type 1} → statement M
verb_fault_spec = tie.close (tie.spec
    (λ c κs. search rules) (λ c κs. search rules) (λ c. c.refuse_if.ensures ∙ rw c.within-ok.ensures))
