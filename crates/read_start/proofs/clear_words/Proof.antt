use borrow.Author.Rules.{rules}
use Rattle.read_start.proofs.clear_words.Statement.{statement}
use Rattle.read_start.proofs.clear_words.Tie as tie

returns : tie.Need-returns
returns c = (c.clear_state.ensures, c.clear_begun.ensures)

pub clear_words_spec : {M : Type 1} → statement M
clear_words_spec = tie.close (tie.spec
    (λ c κs. search rules) (λ c κs. search rules) returns)
