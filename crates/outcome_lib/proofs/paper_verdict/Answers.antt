use Rattle.std.proofs.Common.{rules}
use Rattle.outcome_spec.specs.Paper.{no_steps, paper_verdict}
use Rattle.outcome_lib.proofs.Outcomes.{judged-in, timed-in}
use Rattle.outcome_lib.proofs.paper_verdict.Goals as goal

pub returns-in-Some : goal.returns-in-Some
unfolding paper_verdict no_steps
returns-in-Some c = rw c.in-Some.is (timed-in (search rules) c.timed.ensures)

pub returns-in-None : goal.returns-in-None
unfolding paper_verdict no_steps
returns-in-None c = rw c.in-None.is (judged-in (search rules) c.judge.ensures)
