use mathlib.Core.Path.{sym, ◌∙◌}
use Rattle.read_items.proofs.Laws.{handed_on}
use Rattle.read_start.proofs.JoinLines.{join-faulty, join-got, join-refused, refused_number}
use Rattle.read_start.proofs.joins.join_line.Goals as goal

pub returns-in_err-n-clause-reads : goal.returns-in_err-n-clause-reads
returns-in_err-n-clause-reads c = rw (handed_on _ c.from_residual.ensures.1) (join-faulty _ _ _ _ c.in_err-n.ensures.reads)

pub returns-in_err-join_held-clause-reads : goal.returns-in_err-join_held-clause-reads
returns-in_err-join_held-clause-reads c =
    let e = c.in_err-join_held.ensures in
    rw (handed_on _ c.from_residual-in_err-join_held.ensures.1, e) (join-refused _ _ _ _ _ _ c.in_ok-n.ensures.reads (λ z. refused_number _ (e ∙ z)))

pub returns-clause-reads : goal.returns-clause-reads
returns-clause-reads c = join-got _ _ _ _ _ _ c.in_ok-n.ensures.reads (sym c.in_ok-join_held.ensures)
