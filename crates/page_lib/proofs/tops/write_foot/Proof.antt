use Rattle.write_items.proofs.Laws.{none, then, length-written}
use Rattle.page_spec.specs.Page.{foot}
use Rattle.page_spec.specs.Piece.{piece_text, page_text}
use borrow.Author.Rules.{rules}
use Rattle.page_lib.proofs.tops.write_foot.Statement.{statement}
use Rattle.page_lib.proofs.tops.write_foot.Tie as tie

returns : tie.Need-returns
unfolding foot page_text piece_text
returns c =
    let w3 = c in
    let w2 = c in
    let w1 = c in
    then w1.write_key-a.ensures (then w2.write_number-b.ensures (then w3.write_key.ensures (none _ _)))

pub write_foot_spec : {M : Type 1} → statement M
write_foot_spec =
    tie.close
    (tie.spec
    (λ c κs. search rules) (λ c κs. search rules) (λ c κs. search rules) (λ c. length-written (returns c)) returns)
