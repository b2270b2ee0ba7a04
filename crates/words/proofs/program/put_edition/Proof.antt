use Rattle.words.proofs.InTexts.{program-edition}
use borrow.Author.Rules.{rules}
use Rattle.words.proofs.program.put_edition.Statement.{statement}
use Rattle.words.proofs.program.put_edition.Tie as tie

returns : tie.Need-returns
returns c = rw c.put_at.ensures (program-edition _ _ c.put_at-arg-1.given.0.1)

pub put_edition_spec : {M : Type 1} → statement M
put_edition_spec = tie.close (tie.spec
    (λ c κs. search rules) returns)
