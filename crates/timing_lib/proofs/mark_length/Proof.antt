use native.Mathlib.Omega.{arith}
use Rattle.item_spec.specs.Reader.{bytes}
use Rattle.write_report.proofs.Bounds.{count-short}
use borrow.Author.Rules.{rules}
use Rattle.timing_lib.proofs.mark_length.Statement.{statement}
use Rattle.timing_lib.proofs.mark_length.Tie as tie

returns : tie.Need-returns
returns c = omega (arith, count-short (bytes "mark=") c.args.mark, c.write_count.ensures.to_is)

pub mark_length_spec : {M : Type 1} → statement M
mark_length_spec =
    tie.close
    (tie.spec
    (λ c. search rules) (λ c κs. search rules) returns)
