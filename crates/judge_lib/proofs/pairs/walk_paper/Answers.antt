use Rattle.judge_lib.proofs.Order.{passed-on, outcome-comes, walk-goes, fault-goes}
use Rattle.judge_lib.proofs.pairs.walk_paper.Goals as goal

pub returns-in_err-outcome_of : goal.returns-in_err-outcome_of
returns-in_err-outcome_of c =
    let o = c.open_cleared-opened.ensures in
    let e = rw c.in_err-outcome_of.was at (outcome-comes _ _ c.outcome_of.ensures o.sheet o.long o.begins c.fill_answer-said.ensures) in
    rw (passed-on _ _ c.from_residual.ensures.1) (fault-goes _ _ _ _ _ e)

pub returns : goal.returns
returns c =
    let o = c.open_cleared-opened.ensures in
    let e = rw c.in_ok-outcome_of.was at (outcome-comes _ _ c.outcome_of.ensures o.sheet o.long o.begins c.fill_answer-said.ensures) in
    walk-goes _ _ _ _ _ _ e c.walk_words.ensures
