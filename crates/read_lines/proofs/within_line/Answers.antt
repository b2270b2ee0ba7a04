use mathlib.Core.Path.{sym, ◌∙◌}
use borrow.Author.Tests.{lt-leb, le-leb}
use borrow.Author.Rules.{rules}
use Rattle.read_spec.specs.Kinds.{count_line_in}
use Rattle.read_items.proofs.Shapes.{keyed-got, keyed-fault}
use Rattle.read_lines.proofs.within_line.Goals as goal

pub returns-in_default : goal.returns-in_default
unfolding count_line_in
returns-in_default c = record { reads = record { within = search rules; same = sym (keyed-fault _ _ _ c.in_default.ensures) }; limited = tt }

pub returns-then-a-least : goal.returns-then-a-least
unfolding count_line_in
returns-then-a-least c =
    record { reads = record { within = search rules; same = sym (keyed-got _ _ _ c.in-Some.ensures ∙ rw (lt-leb _ _ c.if-a-least.true)) }; limited = tt }

pub returns-then-greatest-a : goal.returns-then-greatest-a
unfolding count_line_in
returns-then-greatest-a c =
    record {
      reads = record { within = search rules; same = sym (keyed-got _ _ _ c.in-Some.ensures ∙ rw (le-leb _ _ c.if-a-least.false, lt-leb _ _ c.if-greatest-a.true)) };
      limited = tt;
    }

pub returns : goal.returns
unfolding count_line_in
returns c =
    let l = c.if-a-least.false in
    let g = c.if-greatest-a.false in
    record {
      reads = record { within = c.in-Some.ensures.within; same = sym (keyed-got _ _ _ c.in-Some.ensures ∙ rw (le-leb _ _ l, le-leb _ _ g)) };
      limited = (l, g);
    }
