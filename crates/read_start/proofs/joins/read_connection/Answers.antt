use native.Mathlib.Numerals.{add-one}
use Rattle.read_items.proofs.Laws.{handed_on}
use Rattle.read_chain.proofs.Placed.{placed-ok}
use Rattle.read_start.proofs.JoinLines.{join-made, join-put, join-stop}
use Rattle.read_start.proofs.joins.read_connection.Goals as goal

pub returns-in_err-n : goal.returns-in_err-n
returns-in_err-n c = λ j lasts.
    rw (handed_on _ c.from_residual.ensures.1) (join-stop _ _ _ _ _ _ c.place_in-at.ensures _ c.join_line-line.ensures.reads c.in_err-n.ensures j lasts)

pub returns : goal.returns
returns c = λ j lasts.
    let small = rw (placed-ok _ _ c.in_ok-n.ensures) at c.join_line-line.ensures.small in
    rw (join-made _ _ _ small c.connect.ensures, add-one) (join-put _ _ _ _ _ _ c.place_in-at.ensures _ c.join_line-line.ensures.reads c.in_ok-n.ensures j lasts)
