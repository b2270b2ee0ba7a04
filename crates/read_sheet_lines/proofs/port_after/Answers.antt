use mathlib.Core.Path.{sym, ◌∙◌}
use Rattle.read_spec.specs.Kinds.{group}
use Rattle.read_items.proofs.Limits.{form-fault, limit-fault, limit-kept}
use Rattle.read_sheet_lines.specs.Rows.{port_after}
use Rattle.read_sheet_lines.proofs.Limits.{group-kept}
use Rattle.read_sheet_lines.proofs.port_after.Goals as goal

pub returns-in_default : goal.returns-in_default
unfolding port_after group
returns-in_default c = form-fault _ _ (form-fault _ _ c.in_default.ensures)

pub returns-then-overlaps : goal.returns-then-overlaps
unfolding port_after
returns-then-overlaps c = limit-fault _ _ (group-kept _ _ _ _ c.in-Some.ensures c.if-places-known.true) (rw (sym c.overlaps.ensures ∙ c.if-overlaps.true))

pub returns-then-places-known : goal.returns-then-places-known
unfolding port_after
returns-then-places-known c = limit-kept _ _ (group-kept _ _ _ _ c.in-Some.ensures c.if-places-known.true) (rw (sym c.overlaps.ensures ∙ c.if-overlaps.false))

pub returns : goal.returns
unfolding port_after group
returns c = form-fault _ _ (limit-fault _ _ c.in-Some.ensures (rw c.if-places-known.false))
