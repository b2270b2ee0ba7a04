use Rattle.write_items.proofs.Laws.{length-written}
use Rattle.page_spec.specs.Page.{counts}
use Rattle.page_spec.specs.Piece.{piece_text}
use Rattle.page_lib.proofs.Pieces.{end, one, more}
use borrow.Author.Rules.{rules}
use Rattle.page_lib.proofs.tops.write_counts.Statement.{statement}
use Rattle.page_lib.proofs.tops.write_counts.Tie as tie

returns : tie.Need-returns
unfolding counts piece_text
returns c =
    let w6 = c in
    let w5 = c in
    let w4 = c in
    let w3 = c in
    let w2 = c in
    let w1 = c in
    one _ _ w1.write_key-a.ensures (one _ _ w2.write_number-b.ensures (one _ _ w3.write_key-c.ensures (one _ _ w4.write_key-d.ensures (more _ _ w5.write_count_rows-e.ensures (one _ _ w6.write_key.ensures (end _ _))))))

pub write_counts_spec : {M : Type 1} → statement M
write_counts_spec =
    tie.close
    (tie.spec
    (λ c κs. search rules) (λ c κs. search rules) (λ c κs. search rules) (λ c κs. search rules) (λ c κs. search rules) (λ c κs. search rules)
    (λ c. length-written (returns c)) returns)
