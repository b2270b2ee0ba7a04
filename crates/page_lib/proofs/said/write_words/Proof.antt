use Rattle.page_spec.specs.Words.{words_text}
use Rattle.page_spec.specs.Piece.{piece_text}
use borrow.Author.Rules.{rules}
use Rattle.page_lib.proofs.said.write_words.Statement.{statement}
use Rattle.page_lib.proofs.said.write_words.Tie as tie

pub write_words_spec : {M : Type 1} → statement M
unfolding piece_text words_text
write_words_spec =
    tie.close
    (tie.spec
    (λ c κs. search rules) (λ c. search rules) (λ c. c.write_line.ensures))
