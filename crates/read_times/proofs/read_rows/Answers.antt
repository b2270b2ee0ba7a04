use mathlib.Core.Path.{sym}
use native.Mathlib.Nat.{zero-add}
use native.Mathlib.Omega.{arith}
use Rattle.read_items.proofs.Laws.{handed_on}
use Rattle.read_lines.proofs.Runs.{upto_turn, upto-stop, upto-end}
use Rattle.times_spec.specs.Text.{time}
use Rattle.read_times.specs.Says.{filled}
use Rattle.read_times.proofs.Laws.{row_read, row-refused}
use Rattle.read_times.proofs.read_rows.Goals as goal

pub slice_bounds-time_line-count : goal.slice_bounds-time_line-count
slice_bounds-time_line-count c = omega (arith, (c.loop-row.invariant 0).within)

pub slice_bounds-time_line-start : goal.slice_bounds-time_line-start
slice_bounds-time_line-start c = omega (arith, (c.loop-row.invariant 0).within)

pub returns-in_err-used : goal.returns-in_err-used
returns-in_err-used c par =
    let l = c.loop-row in
    rw (handed_on _ c.from_residual.ensures.1)
    (upto-stop time _ 0 _ _ _ (l.invariant par) c.loop-row-test.true l._row (sym (zero-add _))
    (row-refused c.args.text.now l.at (l.invariant par).within (filled par l.listed l.seconds) _ _ _ (c.time_line.ensures par _) c.in_err-used.ensures))

pub overflow_add-at : goal.overflow_add-at
overflow_add-at c =
    let l = c.loop-row in
    omega (arith, (row_read c.args.text.now l.at (l.invariant 0).within (filled 0 l.listed l.seconds) 0 _ _ (c.time_line.ensures 0 0) c.in_ok-used.ensures).within)

pub loop-row-preserved : goal.loop-row-preserved
loop-row-preserved c par =
    let l = c.loop-row in
    upto_turn time _ 0 _ _ _ (l.invariant par) c.loop-row-test.true l._row (sym (zero-add _))
    (row_read c.args.text.now l.at (l.invariant par).within (filled par l.listed l.seconds) _ _ _ (c.time_line.ensures par _) c.in_ok-used.ensures)

pub returns : goal.returns
returns c par = upto-end time _ 0 _ _ _ (c.loop-row.invariant par) c.loop-row-test.false
