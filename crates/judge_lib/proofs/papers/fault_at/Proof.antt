use mathlib.Core.Path.{ap}
use Rattle.judge_spec.specs.declared.Verdict.{Verdict}
use Rattle.judge_spec.specs.Judged.{after_fault}
use borrow.Author.Rules.{rules}
use Rattle.judge_lib.proofs.papers.fault_at.Statement.{statement}
use Rattle.judge_lib.proofs.papers.fault_at.Tie as tie

returns : tie.Need-returns
unfolding after_fault
returns c =
    let a = c.args in
    ap (λ (v : Verdict). record { text = a.x; refused = a.n; line = v.line }) c.after_fault-fault.ensures

pub fault_at_spec : {M : Type 1} → statement M
fault_at_spec = tie.close (tie.spec
    (λ c κs. search rules) returns)
