use Rattle.aeolus_lib.proofs.Printed.{shown-prints}
use borrow.Author.Rules.{rules}
use Rattle.aeolus_lib.proofs.print.Statement.{statement}
use Rattle.aeolus_lib.proofs.print.Tie as tie

returns : tie.Need-returns
returns c = let h = c.judge-verdict.ensures in shown-prints _ _ _ (search rules) h.0 h.1 c.fault_or_report.ensures

pub print_spec : {M : Type 1} → statement M
print_spec = tie.close (tie.spec
    (λ c κs. search rules) (λ c κs. search rules) returns)
