use Rattle.write_items.proofs.Laws.{none, then, length-written}
use Rattle.page_spec.specs.Page.{filter_rule}
use Rattle.page_spec.specs.Piece.{piece_text, page_text}
use borrow.Author.Rules.{rules}
use Rattle.page_lib.proofs.tops.write_rule.Statement.{statement}
use Rattle.page_lib.proofs.tops.write_rule.Tie as tie

returns : tie.Need-returns
unfolding filter_rule page_text piece_text
returns c =
    let w5 = c in
    let w4 = c in
    let w3 = c in
    let w2 = c in
    let w1 = c in
    then w1.write_key-a.ensures (then w2.write_number-b.ensures (then w3.write_key-c.ensures (then w4.write_number-d.ensures (then w5.write_key.ensures (none _ _)))))

pub write_rule_spec : {M : Type 1} → statement M
write_rule_spec =
    tie.close
    (tie.spec
    (λ c κs. search rules) (λ c κs. search rules) (λ c κs. search rules) (λ c κs. search rules) (λ c κs. search rules)
    (λ c. length-written (returns c)) returns)
