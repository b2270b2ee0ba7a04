use native.Mathlib.Omega.{arith}
use lib.ListN.{length-take}
use borrow.Author.Rules.{rules}
use Rattle.compare_batch.proofs.judge_within.Statement.{statement}
use Rattle.compare_batch.proofs.judge_within.Tie as tie

slice-aggregate-judge-texts : tie.Need-slice_bounds-judge_texts-end-2
slice-aggregate-judge-texts c = simp length-take (omega arith)

pub judge_within_spec : {M : Type 1} → statement M
judge_within_spec =
    tie.close
    (tie.spec
    (λ c. search rules) slice-aggregate-judge-texts (λ c κs. search rules) (λ c. search rules) (λ c. search rules) (λ c. search rules))
