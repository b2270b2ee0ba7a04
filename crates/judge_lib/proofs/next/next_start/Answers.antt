use Rattle.std.proofs.Common.{rules}
use Rattle.words.proofs.InState.{start-in}
use Rattle.words.proofs.InTexts.{none-begun}
use Rattle.judge_lib.proofs.Onward.{fault-starts, next-short, walk-starts}
use Rattle.judge_lib.proofs.next.next_start.Goals as goal

pub walk_paper-requires : goal.walk_paper-requires
walk_paper-requires c = (start-in, none-begun 288)

pub after_steps-requires-clause-short : goal.after_steps-requires-clause-short
after_steps-requires-clause-short c = next-short _ _ _ _ _ _ (rw c.in-Ok.is at c.walk_paper.ensures)

pub returns-in-Ok : goal.returns-in-Ok
returns-in-Ok c =
    let h = walk-starts _ _ _ (search rules) _ _ _ _ (rw c.in-Ok.is at c.walk_paper.ensures) c.after_steps.ensures in
    record { starts = h.0; counts = h.1 }

pub returns-in-Err : goal.returns-in-Err
returns-in-Err c =
    let h = fault-starts _ _ _ _ (rw c.in-Err.is at c.walk_paper.ensures) c.after_text.ensures in
    record { starts = h.0; counts = h.1 }
