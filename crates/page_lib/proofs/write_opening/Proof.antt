use Rattle.write_items.proofs.Laws.{none, then, length-written}
use Rattle.page_spec.specs.Page.{opening}
use Rattle.page_spec.specs.Piece.{piece_text, page_text}
use borrow.Author.Rules.{rules}
use Rattle.page_lib.proofs.write_opening.Statement.{statement}
use Rattle.page_lib.proofs.write_opening.Tie as tie

returns : tie.Need-returns
unfolding opening page_text piece_text
returns c =
    let w11 = c in
    let w10 = c in
    let w9 = c in
    let w8 = c in
    let w7 = c in
    let w6 = c in
    let w5 = c in
    let w4 = c in
    let w3 = c in
    let w2 = c in
    let w1 = c in
    then w1.write_key-a.ensures (then w2.write_number-b.ensures (then w3.write_key-c.ensures (then w4.write_number-d.ensures (then w5.write_key-e.ensures (then w6.write_number-f.ensures (then w7.write_key-g.ensures (then w8.show-h.ensures (then w9.write_key-i.ensures (then w10.write_words-j.ensures (then w11.write_key.ensures (none _ _)))))))))))

pub write_opening_spec : {M : Type 1} → statement M
write_opening_spec =
    tie.close
    (tie.spec
    (λ c κs. search rules) (λ c κs. search rules) (λ c κs. search rules) (λ c κs. search rules) (λ c κs. search rules) (λ c κs. search rules)
    (λ c κs. search rules) (λ c κs. search rules) (λ c κs. search rules) (λ c κs. search rules) (λ c κs. search rules)
    (λ c. length-written (returns c)) returns)
