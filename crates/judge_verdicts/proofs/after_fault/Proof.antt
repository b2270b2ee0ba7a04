use Rattle.judge_spec.specs.Judged.{after_fault}
use borrow.Author.Rules.{rules}
use Rattle.judge_verdicts.proofs.after_fault.Statement.{statement}
use Rattle.judge_verdicts.proofs.after_fault.Tie as tie

fault-line-requires : tie.Need-fault_line-line-requires
fault-line-requires c κs = search rules

returns : tie.Need-returns
unfolding after_fault
returns c = rw c.fault_line-line.ensures

pub after_fault_spec : {M : Type 1} → statement M
after_fault_spec = tie.close (tie.spec
    fault-line-requires returns)
