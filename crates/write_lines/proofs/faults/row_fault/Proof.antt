use mathlib.Core.Path.{◌∙◌}
use Rattle.write_spec.specs.Kinds.{behavior_fault}
use borrow.Author.Rules.{rules}
use Rattle.write_lines.proofs.faults.row_fault.Statement.{statement}
use Rattle.write_lines.proofs.faults.row_fault.Tie as tie

pub row_fault_spec : {M : Type 1} → statement M
unfolding behavior_fault
row_fault_spec =
    tie.close
    (tie.spec
    (λ c. search rules) (λ c κs. search rules) (λ c. search rules) (λ c κs. search rules) (λ c κs. search rules) (λ c. search rules)
    (λ c κs. search rules) (λ c. rw c.in-Transitions.is c.tran_fault.ensures)
    (λ c. rw c.in-Behaviors.is (c.limit_fault.ensures ∙ rw c.mask_ok.ensures)) (λ c. rw c.in-Ports.is c.port_fault.ensures))
