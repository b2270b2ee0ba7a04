use Prim.Native.Nat.{◌*◌, ◌+◌}
use native.Mathlib.Omega.{arith}
use Rattle.read_items.proofs.Laws.{handed_on}
use Rattle.read_lines.proofs.Runs.{upto_turn, upto-stop, upto-end}
use Rattle.read_sheet.specs.Rows.{per_type, row}
use Rattle.read_sheet.proofs.TypeRows.{few-slots}
use Rattle.read_sheet.proofs.types.rows_run.Goals as goal

pub overflow_mul-first : goal.overflow_mul-first
overflow_mul-first c = omega (arith, rw (← c.per_type.ensures) at (few-slots c.args.rows c.args.kind c.requires.kind_bound))

pub overflow_add-first : goal.overflow_add-first
overflow_add-first c = omega (arith, c.requires.number_bound, rw (← c.per_type.ensures) at (few-slots c.args.rows c.args.kind c.requires.kind_bound))

pub returns-in_err-at : goal.returns-in_err-at
returns-in_err-at c =
    let a = c.args in
    rw (handed_on _ c.from_residual.ensures.1)
    (upto-stop (row a.rows a.known) _ (a.kind * per_type a.rows) _ _ _ c.loop-i.invariant c.loop-i-test.true (a.kind * c.per_type.result + c.loop-i.i)
    (rw c.per_type.ensures) c.in_err-at.ensures)

pub loop-i-preserved : goal.loop-i-preserved
loop-i-preserved c =
    let a = c.args in
    upto_turn (row a.rows a.known) _ (a.kind * per_type a.rows) _ _ _ c.loop-i.invariant c.loop-i-test.true (a.kind * c.per_type.result + c.loop-i.i)
    (rw c.per_type.ensures) c.in_ok-at.ensures

pub returns : goal.returns
returns c = upto-end (row c.args.rows c.args.known) _ (c.args.kind * per_type c.args.rows) _ _ _ c.loop-i.invariant c.loop-i-test.false
