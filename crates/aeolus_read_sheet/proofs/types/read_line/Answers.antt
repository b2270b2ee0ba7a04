use mathlib.Core.Path.{refl}
use Rattle.read_items.proofs.Laws.{handed_on}
use Rattle.read_chain.proofs.Placed.{line-put, line-stop}
use Rattle.aeolus_model.specs.Words.{universe_in}
use Rattle.aeolus_read_lines.specs.Kinds.{line_of, line_says, put_in, line_at}
use Rattle.aeolus_read_sheet.proofs.types.read_line.Goals as goal

pub returns-in_err-numbers : goal.returns-in_err-numbers
unfolding line_at
returns-in_err-numbers c =
    let a = c.args in
    let u = universe_in a.universe.now in
    rw (handed_on _ c.from_residual.ensures.1)
    (line-stop (line_says a.kind) (line_of a.kind a.k a.j u) (put_in a.kind a.k a.j u) _ _ _ c.place_in-at.ensures _ c.kind_line.ensures c.in_err-numbers.ensures refl)

pub returns : goal.returns
unfolding line_at
returns c =
    let a = c.args in
    let u = universe_in a.universe.now in
    rw c.put_line.ensures
    (line-put (line_says a.kind) (line_of a.kind a.k a.j u) (put_in a.kind a.k a.j u) _ _ _ c.place_in-at.ensures _ c.kind_line.ensures c.in_ok-numbers.ensures refl)
