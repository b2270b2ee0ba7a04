use Rattle.write_items.proofs.Laws.{none, then, length-written}
use Rattle.page_spec.specs.Page.{heading}
use Rattle.page_spec.specs.Piece.{piece_text, page_text}
use borrow.Author.Rules.{rules}
use Rattle.page_lib.proofs.tops.write_heading.Statement.{statement}
use Rattle.page_lib.proofs.tops.write_heading.Tie as tie

returns : tie.Need-returns
unfolding heading page_text piece_text
returns c =
    let w10 = c in
    let w9 = c in
    let w8 = c in
    let w7 = c in
    let w6 = c in
    let w5 = c in
    let w4 = c in
    let w3 = c in
    let w2 = c in
    let w1 = c in
    then w1.show-a.ensures (then w2.write_key-b.ensures (then w3.show-c.ensures (then w4.write_key-d.ensures (then w5.show-e.ensures (then w6.write_key-f.ensures (then w7.show-g.ensures (then w8.write_key-h.ensures (then w9.show-i.ensures (then w10.write_key.ensures (none _ _))))))))))

pub write_heading_spec : {M : Type 1} → statement M
write_heading_spec =
    tie.close
    (tie.spec
    (λ c κs. search rules) (λ c κs. search rules) (λ c κs. search rules) (λ c κs. search rules) (λ c κs. search rules) (λ c κs. search rules)
    (λ c κs. search rules) (λ c κs. search rules) (λ c κs. search rules) (λ c κs. search rules) (λ c. length-written (returns c)) returns)
