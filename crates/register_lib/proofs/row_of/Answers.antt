use Rattle.std.proofs.Common.{rules}
use Rattle.outcome_lib.proofs.Outcomes.{judged-in, placed-in}
use Rattle.register_lib.proofs.Rows.{row_is}
use Rattle.register_lib.proofs.row_of.Goals as goal

pub returns : goal.returns
returns c =
    let told = c.outcome-told.ensures in
    let judged = c.judge_and_place-judged.ensures in
    row_is _ _ _ _ c.line_of-line.ensures told.outcome (judged-in (search rules) judged.judges) (placed-in (search rules) judged.places) told.program c.mark_of-mark.ensures
