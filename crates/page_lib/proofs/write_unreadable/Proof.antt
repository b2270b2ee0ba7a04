use Rattle.write_items.proofs.Laws.{length-written}
use Rattle.page_spec.specs.Page.{unreadable}
use Rattle.page_lib.proofs.Pieces.{more}
use borrow.Author.Rules.{rules}
use Rattle.page_lib.proofs.write_unreadable.Statement.{statement}
use Rattle.page_lib.proofs.write_unreadable.Tie as tie

returns : tie.Need-returns
unfolding unreadable
returns c =
    let w2 = c in
    let w1 = c in
    more _ _ w1.write_opening-a.ensures w2.write_signs.ensures

pub write_unreadable_spec : {M : Type 1} → statement M
write_unreadable_spec =
    tie.close
    (tie.spec
    (λ c κs. search rules) (λ c κs. search rules) (λ c. length-written (returns c)) returns)
