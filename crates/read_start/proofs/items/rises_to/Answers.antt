use Prim.Native.Nat.{◌-◌, ◌+◌, ◌<◌}
use mathlib.Core.Path.{◌≡◌, refl, sym, ◌∙◌}
use native.Mathlib.Omega.{arith}
use borrow.Author.Tests.{lt-ltb, le-ltb}
use lib.ListN.{length-take}
use Rattle.read_start.specs.Items.{queue_in}
use Rattle.read_start.proofs.Laws.{get_take}
use Rattle.read_start.proofs.Queues.{rises-none, rises-turn, rises-end}
use Rattle.read_start.proofs.items.rises_to.Goals as goal

pub returns-then-n-eq0 : goal.returns-then-n-eq0
returns-then-n-eq0 c =
    let a = c.args in
    rises-none a.last (queue_in a.slots.now a.count) (omega (arith, length-take a.count a.slots.now, c.smaller-n.ensures.value, c.if-n-eq0.true))

pub returns-then-at_or : goal.returns-then-at_or
returns-then-at_or c =
    let a = c.args in
    let r = c.loop-r.r in
    let least = c.loop-r.auto.r in
    let few : r < a.count = omega (arith, c.smaller-n.ensures.value, c.loop-r-test.true) in
    sym (rises-turn a.last (queue_in a.slots.now a.count) (r - 1) r (omega arith) (omega (arith, length-take a.count a.slots.now, c.smaller-n.ensures.value, c.loop-r-test.true))
    ∙ rw (
      get_take a.slots.now a.count (r - 1) (omega arith),
      get_take a.slots.now a.count r few,
      ← c.at_or-in-loop-r.ensures,
      ← c.at_or.ensures,
      le-ltb _ _ c.if-at_or.true,
    ) refl) ∙ c.loop-r.invariant

pub loop-r-preserved : goal.loop-r-preserved
loop-r-preserved c =
    let a = c.args in
    let r = c.loop-r.r in
    let least = c.loop-r.auto.r in
    let few : r < a.count = omega (arith, c.smaller-n.ensures.value, c.loop-r-test.true) in
    let next : r + 1 - 1 ≡ r = omega arith in
    rw next
    (sym (rises-turn a.last (queue_in a.slots.now a.count) (r - 1) r (omega arith) (omega (arith, length-take a.count a.slots.now, c.smaller-n.ensures.value, c.loop-r-test.true))
    ∙ rw (
      get_take a.slots.now a.count (r - 1) (omega arith),
      get_take a.slots.now a.count r few,
      ← c.at_or-in-loop-r.ensures,
      ← c.at_or.ensures,
      lt-ltb _ _ c.if-at_or.false,
    ) refl) ∙ c.loop-r.invariant)

pub returns : goal.returns
returns c =
    let a = c.args in
    let n = c.smaller-n.result in
    let some = c.if-n-eq0.false in
    let end : c.loop-r.r ≡ n = omega (arith, c.loop-r-test.false, c.loop-r.auto.r-end, some) in
    let few : n - 1 < a.count = omega (arith, c.smaller-n.ensures.value, some) in
    rw (c.at_or-2.ensures, sym (get_take a.slots.now a.count (n - 1) few))
    (rises-end a.last (queue_in a.slots.now a.count) (n - 1) (omega (arith, length-take a.count a.slots.now, c.smaller-n.ensures.value, some)) ∙ (rw end at c.loop-r.invariant))
