use native.Mathlib.Omega.{arith}
use Rattle.aeolus_judge_spec.specs.Judged.{after_run}
use borrow.Author.Rules.{rules}
use Rattle.aeolus_lib.proofs.run_verdict.Statement.{statement}
use Rattle.aeolus_lib.proofs.run_verdict.Tie as tie

returns : tie.Need-returns
unfolding after_run
returns c = λ d x a e. rw e

pub run_verdict_spec : {M : Type 1} → statement M
run_verdict_spec = tie.close (tie.spec
    (λ c. omega arith) (λ c. search rules) returns)
