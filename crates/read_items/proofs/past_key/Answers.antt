use Prim.Native.Nat.{◌+◌}
use mathlib.Core.Path.{◌≡◌, sym, ap, ◌∙◌}
use native.Mathlib.Nat.{add-zero}
use native.Mathlib.Omega.{arith}
use borrow.Author.Rules.{rules}
use lib.ListN.{length}
use Rattle.item_spec.specs.Read.{key}
use Rattle.read_items.proofs.Laws.{from_end, key-short, key-same, key-other, key-done}
use Rattle.read_items.proofs.past_key.Goals as goal

pub returns-then-s-i : goal.returns-then-s-i
returns-then-s-i c =
    let a = c.args in
    record { within = search rules; same = sym (sym (ap (key a.due.now) (from_end a.s.now a.at)) ∙ key-short a.due.now a.s.now _ (rw c.place_in-i.ensures at c.if-s-i.true)) }

pub loop-j-init : goal.loop-j-init
loop-j-init c =
    let a = c.args in
    (omega (arith, c.place_in-i.ensures, c.if-s-i.false), rw (add-zero, c.place_in-i.ensures) (ap (key a.due.now) (from_end a.s.now a.at)))

pub returns-then-s-i-2 : goal.returns-then-s-i-2
returns-then-s-i-2 c =
    let l = c.loop-j in
    let a = c.args in
    record { within = search rules; same = sym (key-other a.due.now a.s.now l.j (c.place_in-i.result + l.j) (search rules) (omega arith) c.if-s-i-2.true) ∙ l.invariant.1 }

pub loop-j-preserved : goal.loop-j-preserved
loop-j-preserved c =
    let l = c.loop-j in
    let a = c.args in
    let e : c.place_in-i.result + l.j + 1 ≡ c.place_in-i.result + (l.j + 1) = omega arith in
    (l.invariant.0, rw e at (sym (key-same a.due.now a.s.now l.j (c.place_in-i.result + l.j) (search rules) (omega arith) c.if-s-i-2.false) ∙ l.invariant.1))

pub returns : goal.returns
returns c =
    let l = c.loop-j in
    let a = c.args in
    let e : l.j ≡ length a.due.now = omega arith in
    record { within = omega arith; same = rw e at (sym (key-done a.due.now a.s.now l.j (c.place_in-i.result + l.j) (omega arith)) ∙ l.invariant.1) }
