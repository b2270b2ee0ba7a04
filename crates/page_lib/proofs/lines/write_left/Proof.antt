use Rattle.write_items.proofs.Laws.{none, then, length-written}
use borrow.Author.Tests.{lt-ltb, le-ltb}
use Rattle.page_spec.specs.Page.{left_note}
use Rattle.page_spec.specs.Piece.{piece_text, page_text}
use borrow.Author.Rules.{rules}
use Rattle.page_lib.proofs.lines.write_left.Statement.{statement}
use Rattle.page_lib.proofs.lines.write_left.Tie as tie

returns : tie.Need-returns-then-left-gt0
unfolding left_note page_text piece_text
returns c =
    let w3 = c in
    let w2 = c in
    let w1 = c in
    let test = c in
    rw (lt-ltb _ _ test.if-left-gt0.true, left_note)
    (then w1.write_key-a.ensures (then w2.write_number-b.ensures (then w3.write_key.ensures (none _ _))))

returns-2 : tie.Need-returns
unfolding left_note page_text piece_text
returns-2 c = rw (le-ltb _ _ c.if-left-gt0.false, left_note) (none _ _)

pub write_left_spec : {M : Type 1} → statement M
write_left_spec =
    tie.close
    (tie.spec
    (λ c κs. search rules) (λ c κs. search rules) (λ c κs. search rules) (λ c. length-written (returns c)) returns returns-2)
