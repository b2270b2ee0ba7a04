use Rattle.sitting_lib.proofs.Parts.{print-taken}
use borrow.Author.Rules.{rules}
use Rattle.sitting_lib.proofs.plans.write_print.Statement.{statement}
use Rattle.sitting_lib.proofs.plans.write_print.Tie as tie

returns : tie.Need-returns
returns c = rw (print-taken _ _ _ _ c.print-used.ensures.0 c.print-used.ensures.1.0) at c.write_key.ensures

pub write_print_spec : {M : Type 1} → statement M
write_print_spec = tie.close (tie.spec
    (λ c κs. search rules) (λ c. search rules) (λ c. search rules) (λ c κs. search rules) (λ c. search rules) returns)
