use Rattle.sets.specs.Mask.{overlaps}
use mathlib.Core.Bool.{not-not}
use mathlib.Core.Path.{◌∙◌}
use Rattle.write_spec.specs.Kinds.{port_fault}
use borrow.Author.Rules.{rules}
use Rattle.write_lines.proofs.faults.port_fault.Statement.{statement}
use Rattle.write_lines.proofs.faults.port_fault.Tie as tie

pub port_fault_spec : {M : Type 1} → statement M
unfolding port_fault
port_fault_spec =
    tie.close
    (tie.spec
    (λ c κs. search rules) (λ c κs. search rules) (λ c κs. search rules) (λ c κs. search rules) (λ c κs. search rules) (λ c κs. search rules)
    (λ c. c.refuse_if.ensures ∙ rw (c.refuse_if-beyond.ensures, c.refuse_if-initial.ensures, c.mask_ok.ensures, c.mask_ok-2.ensures, c.overlaps.ensures, not-not (overlaps _ _))))
