use native.Mathlib.Omega.{arith}
use Rattle.read_spec.specs.Kinds.{due_line}
use Rattle.read_lines.proofs.Lines.{line-there}
use Rattle.read_lines.proofs.due_at.Goals as goal

pub slice_bounds-due_line-count : goal.slice_bounds-due_line-count
slice_bounds-due_line-count c = omega (arith, c.place_in-start.ensures)

pub slice_bounds-due_line-start : goal.slice_bounds-due_line-start
slice_bounds-due_line-start c = omega (arith, c.place_in-start.ensures)

pub overflow_add-result : goal.overflow_add-result
overflow_add-result c =
    let a = c.args in
    omega (arith, (line-there (due_line a.key.now a.number) a.text.now a.at c.place_in-start.result c.place_in-start.ensures c.in_ok-used.ensures).within)

pub returns-in_err-used : goal.returns-in_err-used
returns-in_err-used c =
    let a = c.args in
    rw c.from_residual.ensures (line-there (due_line a.key.now a.number) _ _ _ c.place_in-start.ensures c.in_err-used.ensures)

pub returns : goal.returns
returns c =
    let a = c.args in
    line-there (due_line a.key.now a.number) _ _ _ c.place_in-start.ensures c.in_ok-used.ensures
