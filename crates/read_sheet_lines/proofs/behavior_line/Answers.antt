use mathlib.Core.Path.{refl}
use borrow.Author.Tests.{lt-leb, le-leb}
use Rattle.read_spec.specs.Kinds.{behavior_line}
use Rattle.read_items.proofs.Limits.{form-fault, limit-fault, limit-kept, whole-line}
use Rattle.read_sheet_lines.specs.Rows.{row_line}
use Rattle.read_sheet_lines.proofs.behavior_line.Goals as goal

pub returns-in_default : goal.returns-in_default
unfolding row_line behavior_line
returns-in_default c = form-fault _ _ (whole-line _ _ _ (form-fault _ _ c.in_default.ensures))

pub returns-then-known-list : goal.returns-then-known-list
unfolding row_line behavior_line
returns-then-known-list c = form-fault _ _ (whole-line _ _ _ (limit-fault _ _ c.in-Some.ensures (rw (lt-leb _ _ c.if-known-list.true))))

pub returns : goal.returns
unfolding row_line behavior_line
returns c = limit-kept _ _ (whole-line _ _ _ (limit-kept _ _ c.in-Some.ensures (rw (le-leb _ _ c.if-known-list.false)))) refl
