use mathlib.Core.Path.{sym, ◌∙◌}
use native.Mathlib.Numerals.{add-one}
use native.Mathlib.Omega.{arith}
use Rattle.read_items.proofs.Laws.{handed_on}
use Rattle.read_items.proofs.Limits.{form-fault, form-then, limit-fault, limit-kept}
use Rattle.aeolus_read_lines.proofs.Keys.{row-numbers, row-few}
use Rattle.aeolus_read_lines.proofs.row_line.Goals as goal

pub returns-in_default : goal.returns-in_default
returns-in_default c = rw (row-numbers _ _ _ _) (form-fault _ _ c.in_default.ensures)

pub returns-in_err-n : goal.returns-in_err-n
returns-in_err-n c =
    rw (handed_on _ c.from_residual.ensures.1, row-numbers _ _ _ _)
    (form-then _ _ c.in-Some.ensures (form-fault _ _ c.in_err-n.ensures))

pub overflow_add-more : goal.overflow_add-more
overflow_add-more c = omega (arith, row-few _ c.in_ok-n.ensures)

pub returns-then-keeps_clauses : goal.returns-then-keeps_clauses
returns-then-keeps_clauses c =
    rw (c.numbers_of.ensures, c.place_of-place.ensures, add-one, row-numbers _ _ _ _)
    (form-then _ _ c.in-Some.ensures (limit-kept _ _ c.in_ok-n.ensures (rw (sym c.keeps_clauses.ensures ∙ c.if-keeps_clauses.true))))

pub returns : goal.returns
returns c =
    rw (row-numbers _ _ _ _)
    (form-then _ _ c.in-Some.ensures (limit-fault _ _ c.in_ok-n.ensures (rw (sym c.keeps_clauses.ensures ∙ c.if-keeps_clauses.false))))
