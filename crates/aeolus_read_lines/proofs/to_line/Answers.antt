use mathlib.Core.Path.{sym}
use borrow.Author.Tests.{lt-leb, le-leb}
use Rattle.read_items.proofs.Limits.{form-fault, limit-fault, limit-kept, whole-line}
use Rattle.aeolus_read_spec.specs.Kinds.{to_line}
use Rattle.aeolus_read_lines.proofs.to_line.Goals as goal

pub returns-in_default : goal.returns-in_default
unfolding to_line
returns-in_default c = whole-line _ _ _ (form-fault _ _ c.in_default.ensures)

pub returns-then-beyond : goal.returns-then-beyond
unfolding to_line
returns-then-beyond c =
    whole-line _ _ _ (limit-fault _ _ c.in-Some.ensures (rw (sym c.states_of.ensures, lt-leb _ _ c.if-beyond.true)))

pub returns : goal.returns
unfolding to_line
returns c =
    rw c.numbers_of.ensures
    (whole-line _ _ _ (limit-kept _ _ c.in-Some.ensures (rw (sym c.states_of.ensures, le-leb _ _ c.if-beyond.false))))
