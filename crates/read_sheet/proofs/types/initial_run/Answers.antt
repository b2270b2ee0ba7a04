use native.Mathlib.Omega.{arith}
use Rattle.read_spec.specs.Kinds.{initial_line}
use Rattle.read_items.proofs.Laws.{handed_on}
use Rattle.read_lines.proofs.Lines.{line-there}
use Rattle.read_lines.proofs.Runs.{line_refused, line-read}
use Rattle.read_chain.proofs.Placed.{placed-ok, placed-err}
use Rattle.read_sheet.proofs.types.initial_run.Goals as goal

pub returns-in_err-mask : goal.returns-in_err-mask
returns-in_err-mask c =
    let a = c.args in
    let l = placed-err _ _ c.in_err-mask.ensures in
    rw (handed_on _ c.from_residual.ensures.1)
    (rw l.1
    (line_refused (initial_line a.places) _ _ c.place_in-at.ensures
    (line-there (initial_line a.places) _ _ _ c.place_in-at.ensures (rw l.0 at c.initial_line-line.ensures))))

pub overflow_add-result : goal.overflow_add-result
overflow_add-result c =
    let a = c.args in
    omega (arith, (line-there (initial_line a.places) a.text.now a.start _ c.place_in-at.ensures (rw (placed-ok _ _ c.in_ok-mask.ensures) at c.initial_line-line.ensures)).within)

pub returns : goal.returns
returns c =
    let a = c.args in
    line-read (initial_line a.places) _ _
    (line-there (initial_line a.places) _ _ _ c.place_in-at.ensures (rw (placed-ok _ _ c.in_ok-mask.ensures) at c.initial_line-line.ensures))
