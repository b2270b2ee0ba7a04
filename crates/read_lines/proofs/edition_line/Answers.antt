use mathlib.Core.Path.{sym, ◌∙◌}
use native.Mathlib.Omega.{arith}
use borrow.Author.Rules.{rules}
use Rattle.read_spec.specs.Kinds.{edition_line}
use Rattle.read_items.proofs.Shapes.{keyed-got, keyed-fault}
use Rattle.read_lines.proofs.Lines.{edition-in, edition-out}
use Rattle.read_lines.proofs.edition_line.Goals as goal

pub returns-in_default : goal.returns-in_default
unfolding edition_line
returns-in_default c = record { reads = record { within = search rules; same = sym (keyed-fault _ _ _ c.in_default.ensures) }; limited = tt }

pub returns-then-a-lt1 : goal.returns-then-a-lt1
unfolding edition_line
returns-then-a-lt1 c =
    record {
      reads = record { within = search rules; same = sym (keyed-got _ _ _ c.in-Some.ensures ∙ rw (edition-out c.in-Some.a (λ l g. omega (arith, c.if-a-lt1.true)))) };
      limited = tt;
    }

pub returns-then-unknown : goal.returns-then-unknown
unfolding edition_line
returns-then-unknown c =
    record {
      reads = record { within = search rules; same = sym (keyed-got _ _ _ c.in-Some.ensures ∙ rw (edition-out c.in-Some.a (λ l g. omega (arith, c.if-unknown.true)))) };
      limited = tt;
    }

pub returns : goal.returns
unfolding edition_line
returns c =
    let l = c.if-a-lt1.false in
    let g = c.if-unknown.false in
    record {
      reads = record { within = c.in-Some.ensures.within; same = sym (keyed-got _ _ _ c.in-Some.ensures ∙ rw (edition-in _ l g)) };
      limited = (l, g);
    }
