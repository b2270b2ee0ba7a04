use borrow.Author.Rules.{rules}
use Rattle.write_texts.proofs.parts.part_ok.Statement.{statement}
use Rattle.write_texts.proofs.parts.part_ok.Tie as tie

pub part_ok_spec : {M : Type 1} → statement M
part_ok_spec =
    tie.close
    (tie.spec
    (λ c. search rules) (λ c. search rules) (λ c. rw c.in-Types.is) (λ c. rw c.in-Instructions.is))
