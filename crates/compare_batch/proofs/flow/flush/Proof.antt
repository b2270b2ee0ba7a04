use native.Mathlib.Omega.{arith}
use lib.ListN.{length-take}
use borrow.Author.Rules.{rules}
use Rattle.compare_batch.proofs.flow.flush.Statement.{statement}
use Rattle.compare_batch.proofs.flow.flush.Tie as tie

slice-aggregate-write-all : tie.Need-slice_bounds-write_all-end
slice-aggregate-write-all c = simp length-take (omega arith)

pub flush_spec : {M : Type 1} → statement M
flush_spec =
    tie.close
    (tie.spec
    slice-aggregate-write-all (λ c κs. search rules) (λ c. search rules) (λ c. search rules))
