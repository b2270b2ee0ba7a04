use borrow.Author.Rules.{rules}
use Rattle.write_texts.proofs.filled.put_text.Statement.{statement}
use Rattle.write_texts.proofs.filled.put_text.Tie as tie

pub put_text_spec : {M : Type 1} → statement M
put_text_spec =
    tie.close
    (tie.spec
    (λ c. search rules) (λ c κs. search rules) (λ c. search rules) (λ c κs. search rules) (λ c. search rules)
    (λ c. rw c.in-Sheet.is c.put_sheet.ensures) (λ c. search rules) (λ c. rw c.in-Form.is c.put_form.ensures))
