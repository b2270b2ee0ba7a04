use mathlib.Core.Path.{sym}
use native.Mathlib.Numerals.{add-one}
use borrow.Author.Tests.{eq-eqb, ne_eqb}
use Rattle.item_spec.proofs.Laws.{list-end, list-end-no, list-plus, list-plus-no, list-digit, list-other}
use Rattle.read_items.proofs.Laws.{small-none}
use Rattle.read_items.proofs.list_byte.Goals as goal

pub returns-in_err-listed : goal.returns-in_err-listed
returns-in_err-listed c =
    rw c.from_residual.ensures (record { small = tt; same = λ s. sym (list-end-no _ _ _ _ _ _ _ s (eq-eqb _ _ c.if-c-end.true) c.in_err-listed.ensures) })

pub returns-then-c-end : goal.returns-then-c-end
returns-then-c-end c =
    let m = c.in_ok-listed.ensures in
    record { small = tt; same = λ s. rw (m.1, m.2, add-one) (sym (list-end _ _ _ _ _ _ _ s (eq-eqb _ _ c.if-c-end.true) m.0)) }

pub returns-in_err-listed-2 : goal.returns-in_err-listed-2
returns-in_err-listed-2 c =
    rw c.from_residual-in_err-listed-2.ensures
    (record { small = tt; same = λ s. sym (list-plus-no _ _ _ _ _ _ _ s (ne_eqb _ _ c.if-c-end.false) (eq-eqb _ _ c.if-c-eq43.true) c.in_err-listed-2.ensures) })

pub returns-then-c-eq43 : goal.returns-then-c-eq43
returns-then-c-eq43 c =
    let m = c.in_ok-listed-2.ensures in
    record { small = small-none; same = λ s. rw (m.1, m.2, add-one) (sym (list-plus _ _ _ _ _ _ _ s (ne_eqb _ _ c.if-c-end.false) (eq-eqb _ _ c.if-c-eq43.true) m.0)) }

pub returns-in_err-value : goal.returns-in_err-value
returns-in_err-value c =
    rw c.from_residual-in_err-value.ensures
    (record { small = tt; same = λ s. sym (list-other _ _ _ _ _ _ _ s (ne_eqb _ _ c.if-c-end.false) (ne_eqb _ _ c.if-c-eq43.false) c.in_err-value.ensures) })

pub returns : goal.returns
returns c =
    let m = c.in_ok-value.ensures in
    record { small = m.2; same = λ s. rw (m.1, add-one) (sym (list-digit _ _ _ _ _ _ _ s (ne_eqb _ _ c.if-c-end.false) (ne_eqb _ _ c.if-c-eq43.false) m.0)) }
