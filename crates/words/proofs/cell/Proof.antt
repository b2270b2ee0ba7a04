use mathlib.Core.Path.{sym, ap, ◌∙◌}
use borrow.Author.Rules.{rules}
use borrow.Author.Tests.{lt-ltb, le-ltb}
use Rattle.model.proofs.View.{list_at}
use Rattle.words.specs.Rows.{word}
use Rattle.words.proofs.cell.Statement.{statement}
use Rattle.words.proofs.cell.Tie as tie

returns : tie.Need-returns-then-k-rows
returns c =
    let p = c in
    let s = c in
    rw (lt-ltb _ _ p.if-k-rows.true)
    (c.at_or.ensures ∙ ap (word s.args.words.now) p.place.ensures.place ∙ sym (list_at s.args.rows.width _ 0 s.args.f s.requires.column))

returns-2 : tie.Need-returns-else-k-rows
returns-2 c = rw (le-ltb _ _ c.if-k-rows.false)

pub cell_spec : {M : Type 1} → statement M
cell_spec = tie.close (tie.spec
    (λ c κs. search rules) (λ c κs. search rules) returns returns-2)
