use Rattle.std.proofs.Common.{sym}
use Rattle.judge_lib.proofs.Order.{depth-few}
use Rattle.read_start.proofs.Laws.{room-is}
use Rattle.judge_lib.proofs.pairs.open_cleared.Goals as goal

pub returns-clause-begins : goal.returns-clause-begins
returns-clause-begins c =
    let e = c.fill_sheet-sheet.ensures in
    rw (room-is _ _ (rw (sym e) at (depth-few c.args.paper.sheet.now)), c.edition.ensures) at c.begin-start.ensures
