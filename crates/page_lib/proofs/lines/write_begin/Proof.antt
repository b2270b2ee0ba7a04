use Rattle.page_spec.specs.Piece.{piece_text}
use borrow.Author.Rules.{rules}
use Rattle.page_lib.proofs.lines.write_begin.Statement.{statement}
use Rattle.page_lib.proofs.lines.write_begin.Tie as tie

pub write_begin_spec : {M : Type 1} → statement M
unfolding piece_text
write_begin_spec =
    tie.close
    (tie.spec
    (λ c κs. search rules) (λ c. search rules) (λ c. rw c.if-hit.true c.write_key.ensures) (λ c κs. search rules) (λ c. search rules)
    (λ c. rw c.if-hit.false c.write_key-2.ensures))
