use mathlib.Core.Path.{◌∙◌}
use Rattle.write_texts.proofs.Whole.{type-numbers}
use borrow.Author.Rules.{rules}
use Rattle.write_texts.proofs.faults.type_fault.Statement.{statement}
use Rattle.write_texts.proofs.faults.type_fault.Tie as tie

pub type_fault_spec : {M : Type 1} → statement M
type_fault_spec =
    tie.close
    (tie.spec
    (λ c κs. search rules) (λ c κs. search rules) (λ c κs. search rules) (λ c κs. search rules) (λ c κs. search rules) (λ c κs. search rules)
    (λ c κs. search rules)
    (λ c. c.or_number-3.ensures ∙ rw (c.or_number-2.ensures, c.or_number.ensures, c.head_fault-head.ensures, c.kind_fault-ends.ensures, c.kind_fault-sets.ensures, c.kind_fault-groups.ensures) (type-numbers _ _)))
