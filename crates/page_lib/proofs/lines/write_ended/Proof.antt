use Rattle.write_items.proofs.Laws.{none, then, length-written}
use Rattle.page_spec.specs.Page.{end_note}
use Rattle.page_spec.specs.Piece.{piece_text, page_text}
use borrow.Author.Rules.{rules}
use Rattle.page_lib.proofs.lines.write_ended.Statement.{statement}
use Rattle.page_lib.proofs.lines.write_ended.Tie as tie

returns : tie.Need-returns-then-ended
unfolding end_note page_text piece_text
returns c =
    let w1 = c in
    let test = c in
    rw (test.if-ended.true, end_note)
    (then w1.write_key.ensures (none _ _))

returns-2 : tie.Need-returns
unfolding end_note page_text piece_text
returns-2 c = rw (c.if-ended.false, end_note) (none _ _)

pub write_ended_spec : {M : Type 1} → statement M
write_ended_spec =
    tie.close
    (tie.spec
    (λ c κs. search rules) (λ c. length-written (returns c)) returns returns-2)
