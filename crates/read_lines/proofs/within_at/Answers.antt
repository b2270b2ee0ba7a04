use native.Mathlib.Omega.{arith}
use Rattle.read_spec.specs.Kinds.{count_line_in}
use Rattle.read_items.specs.Says.{most}
use Rattle.read_lines.specs.Counts.{in_range}
use Rattle.read_items.proofs.Laws.{handed_on}
use Rattle.read_lines.proofs.Lines.{line-there}
use Rattle.read_lines.proofs.within_at.Goals as goal

pub slice_bounds-within_line-count : goal.slice_bounds-within_line-count
slice_bounds-within_line-count c = omega (arith, c.place_in-start.ensures)

pub slice_bounds-within_line-start : goal.slice_bounds-within_line-start
slice_bounds-within_line-start c = omega (arith, c.place_in-start.ensures)

pub returns-in_err-a : goal.returns-in_err-a
returns-in_err-a c =
    let a = c.args in
    rw (handed_on _ c.from_residual.ensures.1)
    (record { reads = line-there (count_line_in (most a.digits) a.key.now (in_range a.least a.greatest)) _ _ _ c.place_in-start.ensures c.in_err-a.ensures.reads; limited = tt })

pub overflow_add-result : goal.overflow_add-result
overflow_add-result c =
    let a = c.args in
    omega (arith, (line-there (count_line_in (most a.digits) a.key.now (in_range a.least a.greatest)) a.text.now a.at c.place_in-start.result c.place_in-start.ensures c.in_ok-a.ensures.reads).within)

pub returns : goal.returns
returns c =
    let a = c.args in
    record { reads = line-there (count_line_in (most a.digits) a.key.now (in_range a.least a.greatest)) _ _ _ c.place_in-start.ensures c.in_ok-a.ensures.reads; limited = c.in_ok-a.ensures.limited }
