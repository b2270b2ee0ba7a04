use mathlib.Core.Path.{sym}
use borrow.Author.Rules.{rules}
use Rattle.item_spec.specs.Items.{item_then}
use Rattle.read_start.proofs.items.item_then.Goals as goal

pub returns-in-Some : goal.returns-in-Some
unfolding item_then
returns-in-Some c = let h = c.in-Some.ensures in record { within = h.within; same = sym (rw (sym h.same, item_then)) }

pub returns-in_err-last : goal.returns-in_err-last
unfolding item_then
returns-in_err-last c =
    let h = c.in_default.ensures in
    let g = c.in_err-last.ensures in
    rw c.from_residual.ensures (record { within = search rules; same = sym (rw (sym h.same, item_then, sym g.same)) })

pub returns : goal.returns
unfolding item_then
returns c =
    let h = c.in_default.ensures in
    let g = c.in_ok-last.ensures in
    record { within = g.within; same = sym (rw (sym h.same, item_then, sym g.same)) }
