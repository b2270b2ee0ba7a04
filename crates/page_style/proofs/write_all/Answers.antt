use Rattle.std.proofs.Common.{List, ℕ, [], take, Bor, ap, sym, ◌∙◌, subst}
use Rattle.std.specs.List.{flat_map}
use Rattle.std.proofs.lemmas.List.{take_more, take_all, flat_map_more}
use Rattle.write_items.specs.Written.{Written}
use Rattle.write_items.proofs.Laws.{none, then}
use Rattle.page_style.proofs.write_all.Goals as goal

abbrev row : List (Bor (List ℕ)) → List ℕ
row = flat_map (λ l. l.now)

pub loop-line-init : goal.loop-line-init
loop-line-init c = none _ _

pub loop-line-preserved : goal.loop-line-preserved
loop-line-preserved c =
    let l = c.loop-line in
    let xs = c.args.lines.now in
    subst (λ ys. Written c.args.t.now ys c.write_key-end.new.t c.args.at c.write_key-end.result)
    (flat_map_more (λ x. x.now) [] (take l.line-index xs) _ ∙ ap row (sym (take_more xs l.line-index _ c.loop-line-test.true)))
    (then l.invariant c.write_key-end.ensures)

pub returns : goal.returns
returns c =
    subst (λ xs. Written c.args.t.now (row xs) c.loop-line.t c.args.at c.loop-line.end)
    (take_all c.loop-line.line-index c.args.lines.now c.loop-line-test.false) c.loop-line.invariant
