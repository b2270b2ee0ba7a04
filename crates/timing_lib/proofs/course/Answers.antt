use Rattle.std.proofs.Common.{◌∙◌}
use Rattle.judge_lib.proofs.Order.{passed-on, outcome-comes, ports-fit}
use Rattle.timing_lib.proofs.Order.{pair-fault, pair-said}
use Rattle.timing_lib.proofs.course.Goals as goal

pub returns-in_err-outcome_of : goal.returns-in_err-outcome_of
returns-in_err-outcome_of c =
    let o = c.open_paper-opened.ensures in
    let e = rw c.in_err-outcome_of.was at (outcome-comes _ _ c.outcome_of.ensures o.sheet o.long o.begins c.fill_answer-said.ensures) in
    rw (passed-on _ _ c.from_residual.ensures.1) (pair-fault _ _ _ _ _ _ e)

pub returns : goal.returns
returns c =
    let o = c.open_paper-opened.ensures in
    let e = rw c.in_ok-outcome_of.was at (outcome-comes _ _ c.outcome_of.ensures o.sheet o.long o.begins c.fill_answer-said.ensures) in
    c.clock_pair.ensures (ports-fit _ _ _ _ _ _ e) ∙ pair-said _ _ _ _ _ _ _ e
