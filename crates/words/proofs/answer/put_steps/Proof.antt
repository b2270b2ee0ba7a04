use Rattle.words.proofs.InTexts.{answer-count}
use borrow.Author.Rules.{rules}
use Rattle.words.proofs.answer.put_steps.Statement.{statement}
use Rattle.words.proofs.answer.put_steps.Tie as tie

returns : tie.Need-returns
returns c = rw c.put_at.ensures (answer-count _ _ c.put_at-arg-1.given.0.1)

pub put_steps_spec : {M : Type 1} → statement M
put_steps_spec = tie.close (tie.spec
    (λ c κs. search rules) returns)
