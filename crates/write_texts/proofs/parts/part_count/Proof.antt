use borrow.Author.Rules.{rules}
use Rattle.write_texts.proofs.parts.part_count.Statement.{statement}
use Rattle.write_texts.proofs.parts.part_count.Tie as tie

pub part_count_spec : {M : Type 1} → statement M
part_count_spec =
    tie.close
    (tie.spec
    (λ c. search rules) (λ c κs. search rules) (λ c. search rules) (λ c κs. search rules) (λ c. rw c.in-Types.is c.types.ensures)
    (λ c. rw c.in-Instructions.is c.instructions.ensures))
