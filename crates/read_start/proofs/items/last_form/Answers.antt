use mathlib.Core.Path.{sym}
use native.Mathlib.Omega.{arith}
use native.Mathlib.Numerals.{add-one}
use borrow.Author.Rules.{rules}
use Rattle.item_spec.specs.Read.{given}
use Rattle.start_spec.specs.Row.{last_form}
use Rattle.read_start.proofs.Queues.{number-took}
use Rattle.read_start.proofs.items.last_form.Goals as goal

pub returns-in-Some : goal.returns-in-Some
unfolding last_form
returns-in-Some c = let h = c.in-Some.ensures in record { within = h.within; same = sym (rw (sym h.same, last_form, given)) }

pub returns-in_err-ticket : goal.returns-in_err-ticket
unfolding last_form
returns-in_err-ticket c =
    let h = c.in_default.ensures in
    let g = c.in_err-ticket.ensures in
    rw c.from_residual.ensures (record { within = search rules; same = sym (rw (sym h.same, last_form, given, sym g.same)) })

pub overflow_add-stamp : goal.overflow_add-stamp
overflow_add-stamp c = omega (arith, (number-took _ _ _ _ (sym c.in_ok-ticket.ensures.same)).1)

pub returns : goal.returns
unfolding last_form
returns c =
    let h = c.in_default.ensures in
    let g = c.in_ok-ticket.ensures in
    record { within = g.within; same = sym (rw (sym h.same, last_form, given, sym g.same, add-one)) }
