use Rattle.write_items.proofs.Laws.{none, then, length-written}
use Rattle.page_spec.specs.Page.{signs}
use Rattle.page_spec.specs.Piece.{piece_text, page_text}
use borrow.Author.Rules.{rules}
use Rattle.page_lib.proofs.write_signs.Statement.{statement}
use Rattle.page_lib.proofs.write_signs.Tie as tie

returns : tie.Need-returns
unfolding signs page_text piece_text
returns c =
    let w2 = c in
    let w1 = c in
    then w1.write_key-a.ensures (then w2.write_key.ensures (none _ _))

pub write_signs_spec : {M : Type 1} → statement M
write_signs_spec =
    tie.close
    (tie.spec
    (λ c κs. search rules) (λ c κs. search rules) (λ c. length-written (returns c)) returns)
