use Prim.Native.Nat.{ℕ, ◌+◌}
use mathlib.Core.Path.{◌≡◌, sym}
use native.Mathlib.Omega.{arith}
use lib.ListN.{get_or}
use borrow.Author.Rules.{rules}
use Rattle.sets.proofs.Laws.{all_start, all_more, all-miss}
use Rattle.read_start.proofs.Queues.{items-below}
use Rattle.read_start.proofs.items.items_ok.Goals as goal

pub loop-r-init : goal.loop-r-init
loop-r-init c = all_start _

pub returns-then-not-known : goal.returns-then-not-known
returns-then-not-known c =
    let a = c.args in
    rw (← c.smaller-r-end.ensures.value, items-below a.n c.smaller-r-end.result (λ (x : ℕ). (get_or a.slots.now x 0, get_or a.slots.now (8 + x) 0)))
    (sym (all-miss c.smaller-r-end.result _ c.loop-r.r (search rules) (rw (← c.at_or.ensures, ← c.at_or-in-loop-r.ensures) c.if-not-known.true)))

pub loop-r-preserved : goal.loop-r-preserved
loop-r-preserved c = all_more c.loop-r.r _ c.loop-r.invariant (rw (← c.at_or.ensures, ← c.at_or-in-loop-r.ensures) c.if-not-known.false)

pub returns : goal.returns
returns c =
    let a = c.args in
    let end : c.loop-r.r ≡ c.smaller-r-end.result = omega arith in
    rw (← c.smaller-r-end.ensures.value, items-below a.n c.smaller-r-end.result (λ (x : ℕ). (get_or a.slots.now x 0, get_or a.slots.now (8 + x) 0)))
    (sym (rw end at c.loop-r.invariant))
