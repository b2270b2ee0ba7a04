use native.Mathlib.Omega.{arith}
use borrow.Author.Rules.{rules}
use Rattle.write_items.proofs.Laws.{none, then, length-written}
use Rattle.sitting_shown.proofs.Pieces.{cell-none, cell-first}
use Rattle.sitting_shown.proofs.show_cell.Statement.{statement}
use Rattle.sitting_shown.proofs.show_cell.Tie as tie

returns-2 : tie.Need-returns
returns-2 c =
    let shows = c in
    let first = c in
    let test = c in
    let text = c.args.text.now in
    rw (cell-first text (omega (arith, test.if-text-eq0.false))) (then first.show_byte-p.ensures shows.show.ensures)

pub show_cell_spec : {M : Type 1} → statement M
show_cell_spec =
    tie.close
    (tie.spec
    (λ c. rw (cell-none _ c.if-text-eq0.true) (none _ _)) (λ c. search rules) (λ c κs. search rules) (λ c. search rules) (λ c. search rules)
    (λ c. search rules) (λ c κs. search rules) (λ c. length-written (returns-2 c)) returns-2)
