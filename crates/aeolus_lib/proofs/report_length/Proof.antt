use native.Mathlib.Omega.{arith}
use borrow.Author.Rules.{rules}
use Rattle.aeolus_lib.proofs.report_length.Statement.{statement}
use Rattle.aeolus_lib.proofs.report_length.Tie as tie

returns : tie.Need-returns
returns c = omega (arith, c.write_report.ensures.to_is, c.requires)

pub report_length_spec : {M : Type 1} → statement M
report_length_spec = tie.close (tie.spec
    (λ c. search rules) (λ c κs. search rules) returns)
