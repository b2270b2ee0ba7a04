use borrow.Author.Rules.{rules}
use Rattle.write_texts.proofs.lines_of.put_type.Statement.{statement}
use Rattle.write_texts.proofs.lines_of.put_type.Tie as tie

pub put_type_spec : {M : Type 1} → statement M
put_type_spec =
    tie.close
    (tie.spec
    (λ c. search rules) (λ c κs. search rules) (λ c. search rules) (λ c κs. search rules) (λ c. search rules)
    (λ c. rw c.in-Sheet.is c.put_sheet_type.ensures) (λ c. search rules) (λ c. rw c.in-Form.is c.put_form_type.ensures))
