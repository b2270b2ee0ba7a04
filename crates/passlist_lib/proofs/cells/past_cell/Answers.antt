use mathlib.Core.Path.{sym, ◌∙◌}
use native.Mathlib.Omega.{arith}
use borrow.Author.Rules.{rules}
use Rattle.passlist_lib.proofs.Laws.{cell-end, cell-on, cell_other, cell-over}
use Rattle.passlist_lib.proofs.cells.past_cell.Goals as goal

pub returns-then-c-eq44 : goal.returns-then-c-eq44
returns-then-c-eq44 c =
    let a = c.args in
    record { within = omega arith; same = sym (cell-end a.cell a.row.now c.loop-i.i c.loop-i-test.true c.if-c-eq44.true) ∙ c.loop-i.invariant }

pub returns-then-not-may_stand : goal.returns-then-not-may_stand
returns-then-not-may_stand c =
    let a = c.args in
    let other = sym c.may_stand.ensures ∙ c.if-not-may_stand.true in
    record { within = search rules; same = sym (cell_other a.cell a.row.now c.loop-i.i c.loop-i-test.true c.if-c-eq44.false other) ∙ c.loop-i.invariant }

pub loop-i-preserved : goal.loop-i-preserved
loop-i-preserved c =
    let a = c.args in
    let stands = sym c.may_stand.ensures ∙ c.if-not-may_stand.false in
    sym (cell-on a.cell a.row.now c.loop-i.i c.loop-i-test.true c.if-c-eq44.false stands) ∙ c.loop-i.invariant

pub returns : goal.returns
returns c =
    let a = c.args in
    record { within = search rules; same = sym (cell-over a.cell a.row.now c.loop-i.i c.loop-i-test.false) ∙ c.loop-i.invariant }
