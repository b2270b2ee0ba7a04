use borrow.Author.Tests.{lt-leb, le-leb, eq-eqb, ne_eqb}
use Rattle.read_spec.specs.Kinds.{initial_line}
use Rattle.read_items.proofs.Limits.{form-fault, limit-fault, limit-kept, whole-line}
use Rattle.read_sheet_lines.proofs.initial_line.Goals as goal

pub returns-in_default : goal.returns-in_default
unfolding initial_line
returns-in_default c = whole-line _ _ _ (form-fault _ _ c.in_default.ensures)

pub returns-then-beyond : goal.returns-then-beyond
unfolding initial_line
returns-then-beyond c = whole-line _ _ _ (limit-fault _ _ c.in-Some.ensures (rw (lt-leb _ _ c.if-beyond.true)))

pub returns-then-empty : goal.returns-then-empty
unfolding initial_line
returns-then-empty c = whole-line _ _ _ (limit-fault _ _ c.in-Some.ensures (rw (le-leb _ _ c.if-beyond.false, eq-eqb _ _ c.if-empty.true)))

pub returns : goal.returns
unfolding initial_line
returns c = whole-line _ _ _ (limit-kept _ _ c.in-Some.ensures (rw (le-leb _ _ c.if-beyond.false, ne_eqb _ _ c.if-empty.false)))
