use Rattle.words.proofs.InTexts.{instruction-put}
use borrow.Author.Rules.{rules}
use Rattle.words.proofs.program.put_instruction.Statement.{statement}
use Rattle.words.proofs.program.put_instruction.Tie as tie

returns : tie.Need-returns
returns c = rw c.put_row.ensures (instruction-put _ _ _ _ _ _ _ c.put_row-arg-1.given.0.1)

pub put_instruction_spec : {M : Type 1} → statement M
put_instruction_spec = tie.close (tie.spec
    (λ c. search rules) (λ c κs. search rules) returns)
