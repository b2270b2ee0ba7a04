use Rattle.words.proofs.InTexts.{step-put}
use borrow.Author.Rules.{rules}
use Rattle.words.proofs.answer.put_step.Statement.{statement}
use Rattle.words.proofs.answer.put_step.Tie as tie

returns : tie.Need-returns
returns c = rw c.put_row.ensures (step-put _ _ _ _ _ c.put_row-arg-1.given.0.1)

pub put_step_spec : {M : Type 1} → statement M
put_step_spec = tie.close (tie.spec
    (λ c. search rules) (λ c κs. search rules) returns)
