use borrow.Author.Rules.{rules}
use Rattle.write_texts.proofs.rows.instruction_at.Statement.{statement}
use Rattle.write_texts.proofs.rows.instruction_at.Tie as tie

pub instruction_at_spec : {M : Type 1} → statement M
instruction_at_spec = tie.close (tie.spec
    (λ c κs. search rules) (λ c. c.instruction-x.ensures))
