use mathlib.Core.Path.{◌∙◌}
use Rattle.write_texts.specs.Parts.{head_fault}
use borrow.Author.Rules.{rules}
use Rattle.write_texts.proofs.faults.head_fault.Statement.{statement}
use Rattle.write_texts.proofs.faults.head_fault.Tie as tie

pub head_fault_spec : {M : Type 1} → statement M
unfolding head_fault
head_fault_spec =
    tie.close
    (tie.spec
    (λ c κs. search rules) (λ c κs. search rules) (λ c κs. search rules) (λ c κs. search rules) (λ c κs. search rules)
    (λ c. c.or_number.ensures ∙ rw (c.limit_fault.ensures, c.initial_fault-initial.ensures, c.places_of-places.ensures, c.initial_of.ensures)))
