use borrow.Author.Tests.{eq-eqb, ne_eqb}
use Rattle.read_items.proofs.Laws.{handed_on}
use Rattle.read_items.proofs.Limits.{form-fault, form-then, limit-fault, limit-kept}
use Rattle.read_sheet_lines.proofs.Limits.{tran-reads}
use Rattle.read_sheet_lines.proofs.tran_line.Goals as goal

pub returns-in_default : goal.returns-in_default
returns-in_default c = tran-reads _ (form-fault _ _ c.in_default.ensures)

pub returns-in_err-n : goal.returns-in_err-n
returns-in_err-n c =
    rw (handed_on _ c.from_residual.ensures.1) (tran-reads _ (form-then _ _ c.in-Some.ensures (form-fault _ _ c.in_err-n.ensures)))

pub returns-then-n : goal.returns-then-n
returns-then-n c = tran-reads _ (form-then _ _ c.in-Some.ensures (limit-fault _ _ c.in_ok-n.ensures (rw (eq-eqb _ _ c.if-n.true))))

pub returns : goal.returns
returns c = tran-reads _ (form-then _ _ c.in-Some.ensures (limit-kept _ _ c.in_ok-n.ensures (rw (ne_eqb _ _ c.if-n.false))))
