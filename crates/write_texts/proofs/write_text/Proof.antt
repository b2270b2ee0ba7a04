use Rattle.write_texts.proofs.Whole.{refused_all, written_all}
use borrow.Author.Rules.{rules}
use Rattle.write_texts.proofs.write_text.Statement.{statement}
use Rattle.write_texts.proofs.write_text.Tie as tie

pub write_text_spec : {M : Type 1} → statement M
write_text_spec =
    tie.close
    (tie.spec
    (λ c κs. search rules) (λ c. refused_all _ _ _ _ c.text_number-refused.ensures c.if-refused-ne0.true) (λ c κs. search rules) (λ c. search rules)
    (λ c. written_all _ _ _ _ c.text_number-refused.ensures c.if-refused-ne0.false c.put_text-bytes.ensures))
