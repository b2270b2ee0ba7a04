use Rattle.read_sheet.proofs.Forms.{counting-none, counting-halt, counting-turn, counting-end, one-few}
use mathlib.Core.Bool.{◌&&◌}
use native.Mathlib.Omega.{arith}
use Rattle.read_sheet.proofs.filled.lines_with.Goals as goal

pub loop-i-init : goal.loop-i-init
loop-i-init c = counting-none _ _ _ _

pub returns-then-fresh-found : goal.returns-then-fresh-found
returns-then-fresh-found c = counting-halt _ _ _ _ c.loop-i.i c.loop-i.count c.loop-i.fresh _ c.loop-i.invariant c.loop-i-test.true c.begins-found.ensures c.if-fresh-found.true

pub overflow_add-count : goal.overflow_add-count
overflow_add-count c = omega (arith, c.loop-i.invariant.few, c.from-count.ensures, one-few (c.loop-i.fresh && c.begins-found.result))

pub loop-i-preserved : goal.loop-i-preserved
loop-i-preserved c =
    counting-turn _ _ _ _ c.loop-i.i c.loop-i.count c.loop-i.fresh _ c.loop-i.invariant c.loop-i-test.true c.begins-found.ensures c.if-fresh-found.false _
    c.from-count.ensures

pub returns : goal.returns
returns c = counting-end _ _ _ _ c.loop-i.i c.loop-i.count c.loop-i.fresh c.loop-i.invariant c.loop-i-test.false
