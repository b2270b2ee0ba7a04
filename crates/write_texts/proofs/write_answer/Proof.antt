use Rattle.write_texts.proofs.Whole.{refused_all, written_all}
use borrow.Author.Rules.{rules}
use Rattle.write_texts.proofs.write_answer.Statement.{statement}
use Rattle.write_texts.proofs.write_answer.Tie as tie

pub write_answer_spec : {M : Type 1} → statement M
write_answer_spec =
    tie.close
    (tie.spec
    (λ c κs. search rules) (λ c. refused_all _ _ _ _ c.answer_number-refused.ensures c.if-refused-ne0.true) (λ c κs. search rules) (λ c. search rules)
    (λ c. written_all _ _ _ _ c.answer_number-refused.ensures c.if-refused-ne0.false c.put_answer-bytes.ensures))
