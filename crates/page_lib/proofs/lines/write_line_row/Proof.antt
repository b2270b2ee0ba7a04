use Rattle.write_items.proofs.Laws.{length-written}
use Rattle.page_spec.specs.Page.{line_row}
use Rattle.page_spec.specs.Piece.{piece_text}
use Rattle.page_lib.proofs.Pieces.{end, one, more}
use borrow.Author.Rules.{rules}
use Rattle.page_lib.proofs.lines.write_line_row.Statement.{statement}
use Rattle.page_lib.proofs.lines.write_line_row.Tie as tie

returns : tie.Need-returns
unfolding line_row piece_text
returns c =
    let w7 = c in
    let w6 = c in
    let w5 = c in
    let w4 = c in
    let w3 = c in
    let w2 = c in
    let w1 = c in
    let count = c in
    let left = c in
    let size = c in
    rw (line_row, ← size.less-before.ensures, ← size.size_of.ensures, ← left.less-left.ensures, ← count.line_count-count.ensures)
    (one _ _ w1.write_begin-a.ensures (one _ _ w2.write_number-b.ensures (one _ _ w3.write_key-c.ensures (one _ _ w4.show_line-d.ensures (more _ _ w5.write_left-e.ensures (more _ _ w6.write_ended-f.ensures (one _ _ w7.write_key.ensures (end _ _))))))))

pub write_line_row_spec : {M : Type 1} → statement M
write_line_row_spec =
    tie.close
    (tie.spec
    (λ c κs. search rules) (λ c κs. search rules) (λ c κs. search rules) (λ c κs. search rules) (λ c κs. search rules) (λ c κs. search rules)
    (λ c κs. search rules) (λ c κs. search rules) (λ c κs. search rules) (λ c κs. search rules) (λ c κs. search rules)
    (λ c. length-written (returns c)) returns)
