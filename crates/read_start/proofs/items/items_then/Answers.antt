use Prim.Native.Nat.{◌+◌}
use mathlib.Core.List.{[], ◌∷◌, ◌++◌}
use mathlib.Core.Path.{sym, refl, ◌∙◌}
use native.Mathlib.Omega.{arith}
use lib.ListN.{length-append}
use borrow.Author.Rules.{rules}
use Rattle.item_spec.specs.Read.{given}
use Rattle.item_spec.specs.Items.{items}
use Rattle.read_start.specs.Items.{none, some, item_of}
use Rattle.read_start.proofs.Queues.{none-slotted, no_items, item-fault, item-last, item-moves, item_on, items-over, slot_kept}
use Rattle.read_start.proofs.items.items_then.Goals as goal

pub returns-in-Some : goal.returns-in-Some
unfolding items
returns-in-Some c = let h = c.in-Some.ensures in some [] h.within (rw (sym h.same, items, given)) refl (none-slotted _ refl)

pub loop-i-init : goal.loop-i-init
unfolding items
loop-i-init c = (no_items _ _ _ _ _ refl, rw (sym c.in_default.ensures.same, items, given))

pub returns-in_err-pair : goal.returns-in_err-pair
returns-in_err-pair c =
    let l = c.loop-i in
    rw c.from_residual.ensures (none (l.invariant.1 ∙ item-fault _ _ _ _ _ _ _ l.invariant.0 (search rules) c.in_err-pair.ensures))

pub returns-then-not-more : goal.returns-then-not-more
returns-then-not-more c =
    let l = c.loop-i in
    let h = c.in_ok-pair.ensures in
    let x = item_of c.in_ok-pair.pair in
    some {n = l.n + 1} (l.invariant.0.items ++ (x ∷ [])) h.within
    (l.invariant.1 ∙ item-last _ _ _ _ _ _ _ l.invariant.0 (search rules) (rw c.if-not-more.true at h))
    (omega (arith, l.invariant.0.count, length-append l.invariant.0.items (x ∷ [])))
    (rw c.put_item.ensures (slot_kept _ _ _ _ _ _ _ l.invariant.0 (search rules) h))

pub loop-i-smaller : goal.loop-i-smaller
loop-i-smaller c =
    let h = c.in_ok-pair.ensures in
    omega (arith, item-moves _ _ _ _ _ _ _ c.loop-i.invariant.0 (search rules) h, h.within)

pub loop-i-preserved : goal.loop-i-preserved
loop-i-preserved c =
    let l = c.loop-i in
    (rw c.put_item.ensures (item_on _ _ _ _ _ _ _ l.invariant.0 (search rules) (rw c.if-not-more.false at c.in_ok-pair.ensures)), l.invariant.1)

pub returns : goal.returns
returns c = let l = c.loop-i in none (l.invariant.1 ∙ items-over _ _ _ _ _ _ _ l.invariant.0 (omega arith))
