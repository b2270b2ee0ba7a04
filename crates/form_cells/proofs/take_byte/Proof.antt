use borrow.Author.Tests.{eq-eqb, ne_eqb}
use Rattle.write_items.proofs.Laws.{none}
use Rattle.form_cells.specs.Cells.{stands, first_after, commas_after}
use mathlib.Core.Bool.{or-true}
use native.Mathlib.Numerals.{add-one}
use borrow.Author.Rules.{rules}
use Rattle.form_cells.proofs.take_byte.Statement.{statement}
use Rattle.form_cells.proofs.take_byte.Tie as tie

pub take_byte_spec : {M : Type 1} → statement M
unfolding stands first_after commas_after
take_byte_spec =
    tie.close
    (tie.spec
    (λ c κs. search rules) (λ c. search rules)
    (λ c. let a = eq-eqb _ _ c.if-c-eq10.true in (rw a c.write_byte-at.ensures, (rw a, rw c.if-c-eq10.true))) (λ c. search rules)
    (λ c.
    let a = ne_eqb _ _ c.if-c-eq10.false in
    let b = eq-eqb _ _ c.if-c-eq44.true in (rw (a, b, or-true) (none _ _), (rw (a, b, or-true), rw b (add-one c.args.row.commas))))
    (λ c.
    let a = ne_eqb _ _ c.if-c-eq10.false in
    let b = ne_eqb _ _ c.if-c-eq44.false in
    let d = eq-eqb _ _ c.if-c-eq13.true in (rw (a, b, d) (none _ _), (rw (a, b, d), rw (b, d))))
    (λ c κs. search rules) (λ c. search rules)
    (λ c.
    let a = ne_eqb _ _ c.if-c-eq10.false in
    let b = ne_eqb _ _ c.if-c-eq44.false in
    let d = ne_eqb _ _ c.if-c-eq13.false in (rw (a, b, d) c.write_value-at.ensures, (rw (a, b, d), rw (b, d)))))
