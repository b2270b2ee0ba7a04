use mathlib.Core.Path.{refl, sym, ◌∙◌}
use native.Mathlib.Omega.{arith}
use Rattle.form_cells.proofs.Laws.{separator-found, separator-later, separator-none}
use Rattle.form_cells.proofs.separator.Goals as goal

pub loop-c-init : goal.loop-c-init
loop-c-init c = refl

pub returns-then-not-is_letter : goal.returns-then-not-is_letter
returns-then-not-is_letter c =
    let l = c.loop-c in
    c.separator_at.ensures ∙ sym (separator-found c.args.rows.now l.c-index (omega arith) (sym c.is_letter.ensures ∙ c.if-not-is_letter.true)) ∙ l.invariant

pub loop-c-preserved : goal.loop-c-preserved
loop-c-preserved c =
    let l = c.loop-c in
    sym (separator-later c.args.rows.now l.c-index (omega arith) (sym c.is_letter.ensures ∙ c.if-not-is_letter.false)) ∙ l.invariant

pub returns : goal.returns
returns c =
    let l = c.loop-c in
    sym (separator-none c.args.rows.now l.c-index (omega arith)) ∙ l.invariant
