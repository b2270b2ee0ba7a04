use Prim.Native.Nat.{◌<◌}
use mathlib.Core.Path.{sym, ◌∙◌}
use native.Mathlib.Omega.{arith}
use lib.ListN.{take, length-take}
use borrow.Author.Tests.{lt-ltb}
use Rattle.model.specs.View.{instance}
use Rattle.words.specs.Words.{state_in}
use Rattle.read_start.proofs.Laws.{take-min}
use Rattle.read_start.proofs.RowLines.{push-turn, push-over, pushed_more}
use Rattle.read_start.proofs.items.push_all.Goals as goal

pub loop-word-preserved : goal.loop-word-preserved
loop-word-preserved c = λ few none.
    let l = c.loop-word in
    let a = c.args in
    let here = c.loop-word-test.true in
    let (m, e) = l.invariant few none in
    let short : l.word-index < a.count = omega (arith, here, length-take c.smaller.result a.slots.now, c.smaller.ensures.value) in
    let p = rw (lt-ltb (instance (state_in l.state) a.i).queued 4294967295 (omega (arith, m, few, short))) at c.push_to.ensures in
    (rw p (pushed_more _ _ _ _ m), rw p (sym (push-turn a.i (take c.smaller.result a.slots.now) _ l.word-index here) ∙ e))

pub returns : goal.returns
returns c = λ few none.
    let a = c.args in
    rw (c.smaller.ensures.value, take-min a.count a.slots.now) at
    (sym (push-over a.i (take c.smaller.result a.slots.now) _ c.loop-word.word-index c.loop-word-test.false) ∙ (c.loop-word.invariant few none).1)
