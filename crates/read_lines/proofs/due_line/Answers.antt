use mathlib.Core.Path.{sym, ◌∙◌}
use borrow.Author.Tests.{eq-eqb, ne_eqb}
use borrow.Author.Rules.{rules}
use Rattle.read_spec.specs.Kinds.{due_line}
use Rattle.read_items.proofs.Shapes.{keyed-got, keyed-fault}
use Rattle.read_lines.proofs.due_line.Goals as goal

pub returns-in_err-a : goal.returns-in_err-a
unfolding due_line
returns-in_err-a c = rw c.from_residual.ensures (record { within = search rules; same = sym (keyed-fault _ _ _ c.in_err-a.ensures) })

pub returns-then-a-number : goal.returns-then-a-number
unfolding due_line
returns-then-a-number c =
    record { within = search rules; same = sym (keyed-got _ _ _ c.in_ok-a.ensures ∙ rw (ne_eqb _ _ c.if-a-number.true)) }

pub returns : goal.returns
unfolding due_line
returns c =
    record { within = c.in_ok-a.ensures.within; same = sym (keyed-got _ _ _ c.in_ok-a.ensures ∙ rw (eq-eqb _ _ c.if-a-number.false)) }
