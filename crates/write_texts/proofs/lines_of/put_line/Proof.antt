use borrow.Author.Rules.{rules}
use Rattle.write_texts.proofs.lines_of.put_line.Statement.{statement}
use Rattle.write_texts.proofs.lines_of.put_line.Tie as tie

pub put_line_spec : {M : Type 1} → statement M
put_line_spec =
    tie.close
    (tie.spec
    (λ c. search rules) (λ c κs. search rules) (λ c. search rules) (λ c κs. search rules) (λ c κs. search rules) (λ c. search rules)
    (λ c. rw c.in-Types.is c.put_type.ensures) (λ c. search rules) (λ c. rw c.in-Instructions.is (rw c.instruction_at.ensures at c.write_do.ensures)))
