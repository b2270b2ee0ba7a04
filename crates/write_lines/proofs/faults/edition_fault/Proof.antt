use Rattle.write_spec.specs.Kinds.{edition_fault}
use borrow.Author.Rules.{rules}
use Rattle.write_lines.proofs.faults.edition_fault.Statement.{statement}
use Rattle.write_lines.proofs.faults.edition_fault.Tie as tie

pub edition_fault_spec : {M : Type 1} → statement M
unfolding edition_fault
edition_fault_spec = tie.close (tie.spec
    (λ c κs. search rules) (λ c. c.refuse_if.ensures))
