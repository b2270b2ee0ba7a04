use Rattle.write_items.proofs.Laws.{none, then, length-written}
use borrow.Author.Tests.{eq-eqb, ne_eqb}
use Rattle.page_spec.specs.Page.{body}
use Rattle.page_spec.specs.Piece.{piece_text, page_text}
use Rattle.page_lib.proofs.Pieces.{more}
use borrow.Author.Rules.{rules}
use Rattle.page_lib.proofs.write_body.Statement.{statement}
use Rattle.page_lib.proofs.write_body.Tie as tie

returns : tie.Need-returns-then-found-eq0
unfolding body page_text piece_text
returns c = rw (eq-eqb _ _ c.if-found-eq0.true, body) (then c.write_key.ensures (none _ _))

returns-2 : tie.Need-returns
unfolding body
returns-2 c =
    let signs = c in
    let beside = c in
    let next = c in
    rw (ne_eqb _ _ next.if-found-eq0.false, body)
    (more _ _ next.write_instruction-a.ensures (more _ _ beside.write_sides-b.ensures signs.write_signs.ensures))

pub write_body_spec : {M : Type 1} → statement M
write_body_spec =
    tie.close
    (tie.spec
    (λ c κs. search rules) (λ c. length-written (returns c)) returns (λ c κs. search rules) (λ c κs. search rules) (λ c κs. search rules)
    (λ c. length-written (returns-2 c)) returns-2)
