use Rattle.words.proofs.InTexts.{program-count}
use borrow.Author.Rules.{rules}
use Rattle.words.proofs.program.put_instructions.Statement.{statement}
use Rattle.words.proofs.program.put_instructions.Tie as tie

returns : tie.Need-returns
returns c = rw c.put_at.ensures (program-count _ _ c.put_at-arg-1.given.0.1)

pub put_instructions_spec : {M : Type 1} → statement M
put_instructions_spec = tie.close (tie.spec
    (λ c κs. search rules) returns)
