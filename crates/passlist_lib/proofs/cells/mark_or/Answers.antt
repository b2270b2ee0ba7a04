use mathlib.Core.Path.{refl}
use native.Mathlib.Omega.{arith}
use Rattle.item_spec.specs.Reader.{give, no_line}
use Rattle.item_spec.specs.Read.{key, upon, one_form}
use Rattle.std.specs.declared.option.Option.TheVariants.{None}
use Rattle.passlist_spec.specs.Row.{mark_of, mark_or}
use Rattle.passlist_lib.proofs.Laws.{mark-few, mark-many, given-then, given-other}
use Rattle.passlist_lib.proofs.cells.mark_or.Goals as goal

pub returns-then-m-gt1000 : goal.returns-then-m-gt1000
unfolding mark_or
returns-then-m-gt1000 c =
    given-then (one_form 5) mark_of (upon c.args.none.now (give None) no_line) c.in-Some.ensures (mark-many _ c.args.row.now _ c.if-m-gt1000.true)

pub returns-in-Some : goal.returns-in-Some
unfolding mark_or
returns-in-Some c =
    let r = c.in-Some.ensures in
    given-then (one_form 5) mark_of (upon c.args.none.now (give None) no_line) r (mark-few _ _ c.args.row.now r.within c.if-m-gt1000.false)

pub returns-in_err-i : goal.returns-in_err-i
unfolding mark_or
returns-in_err-i c =
    rw c.from_residual.ensures
    (given-other (one_form 5) mark_of (upon c.args.none.now (give None) no_line) c.in_default.ensures
    (given-other (key c.args.none.now) (λ _. give None) no_line c.in_err-i.ensures (record { within = omega arith; same = refl })))

pub returns : goal.returns
unfolding mark_or
returns c =
    let k = c.in_ok-i.ensures in
    given-other (one_form 5) mark_of (upon c.args.none.now (give None) no_line) c.in_default.ensures
    (given-then (key c.args.none.now) (λ _. give None) no_line k (record { within = k.within; same = refl }))
