use mathlib.Core.Path.{sym, ◌∙◌}
use Rattle.read_items.proofs.Laws.{handed_on}
use Rattle.read_items.proofs.Limits.{form-fault, form-then, limit-fault, limit-kept}
use Rattle.aeolus_read_lines.proofs.Keys.{interface-numbers}
use Rattle.aeolus_read_lines.proofs.interface_line.Goals as goal

pub returns-in_default : goal.returns-in_default
returns-in_default c = rw (interface-numbers _ _ _ _) (form-fault _ _ c.in_default.ensures)

pub returns-in_err-n : goal.returns-in_err-n
returns-in_err-n c =
    rw (handed_on _ c.from_residual.ensures.1, interface-numbers _ _ _ _)
    (form-then _ _ c.in-Some.ensures (form-fault _ _ c.in_err-n.ensures))

pub returns-then-above : goal.returns-then-above
returns-then-above c =
    rw (c.numbers_of.ensures, interface-numbers _ _ _ _)
    (form-then _ _ c.in-Some.ensures (limit-kept _ _ c.in_ok-n.ensures (rw (sym c.above.ensures ∙ c.if-above.true))))

pub returns : goal.returns
returns c =
    rw (interface-numbers _ _ _ _)
    (form-then _ _ c.in-Some.ensures (limit-fault _ _ c.in_ok-n.ensures (rw (sym c.above.ensures ∙ c.if-above.false))))
