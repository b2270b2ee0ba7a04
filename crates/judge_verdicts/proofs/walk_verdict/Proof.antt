use Rattle.judge_verdicts.proofs.walk_verdict.Statement.{statement}
use Rattle.judge_verdicts.proofs.walk_verdict.Tie as tie

returns : tie.Need-returns
returns x c e = rw e

pub walk_verdict_spec : {M : Type 1} → statement M
walk_verdict_spec = tie.close (tie.spec
    returns)
