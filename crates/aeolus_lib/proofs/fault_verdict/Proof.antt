use Rattle.aeolus_judge_spec.specs.Judged.{after_fault}
use Rattle.judge_spec.specs.Judged.{after_fault as first_fault}
use borrow.Author.Rules.{rules}
use Rattle.aeolus_lib.proofs.fault_verdict.Statement.{statement}
use Rattle.aeolus_lib.proofs.fault_verdict.Tie as tie

returns : tie.Need-returns
unfolding after_fault first_fault
returns c = rw c.after_fault-same.ensures

pub fault_verdict_spec : {M : Type 1} → statement M
fault_verdict_spec = tie.close (tie.spec
    (λ c κs. search rules) returns)
