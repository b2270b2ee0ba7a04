use mathlib.Core.Bool.{not-not}
use mathlib.Core.Path.{◌∙◌}
use lib.Dec.{eqb}
use Rattle.write_spec.specs.Kinds.{tran_fault}
use borrow.Author.Rules.{rules}
use Rattle.write_lines.proofs.faults.tran_fault.Statement.{statement}
use Rattle.write_lines.proofs.faults.tran_fault.Tie as tie

pub tran_fault_spec : {M : Type 1} → statement M
unfolding tran_fault
tran_fault_spec =
    tie.close
    (tie.spec
    (λ c κs. search rules) (λ c κs. search rules) (λ c. c.refuse_if.ensures ∙ rw (c.refuse_if-equal.ensures, not-not (eqb _ _))))
