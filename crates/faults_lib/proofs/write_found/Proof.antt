use borrow.Author.Tests.{eq-eqb, ne_eqb}
use Rattle.write_items.proofs.Laws.{none}
use borrow.Author.Rules.{rules}
use Rattle.faults_lib.proofs.write_found.Statement.{statement}
use Rattle.faults_lib.proofs.write_found.Tie as tie

returns : tie.Need-returns-then-fault-eq0
returns c = rw (eq-eqb _ _ c.if-fault-eq0.true) (none _ 0)

returns-2 : tie.Need-returns
returns-2 c = rw (ne_eqb _ _ c.if-fault-eq0.false) c.write_fault.ensures

pub write_found_spec : {M : Type 1} → statement M
write_found_spec = tie.close (tie.spec
    returns (λ c κs. search rules) (λ c. search rules) returns-2)
