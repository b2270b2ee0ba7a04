use mathlib.Core.Bool.{not-not}
use mathlib.Core.Path.{◌∙◌}
use lib.Dec.{eqb}
use Rattle.write_spec.specs.Kinds.{initial_fault}
use borrow.Author.Rules.{rules}
use Rattle.write_lines.proofs.faults.initial_fault.Statement.{statement}
use Rattle.write_lines.proofs.faults.initial_fault.Tie as tie

pub initial_fault_spec : {M : Type 1} → statement M
unfolding initial_fault
initial_fault_spec =
    tie.close
    (tie.spec
    (λ c κs. search rules) (λ c κs. search rules) (λ c κs. search rules)
    (λ c. c.refuse_if.ensures ∙ rw (c.mask_ok-ok.ensures, c.refuse_if-empty.ensures, not-not (eqb c.args.initial 0))))
