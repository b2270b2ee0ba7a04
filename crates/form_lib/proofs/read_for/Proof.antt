use borrow.Author.Rules.{rules}
use Rattle.form_lib.proofs.read_for.Statement.{statement}
use Rattle.form_lib.proofs.read_for.Tie as tie

pub read_for_spec : {M : Type 1} → statement M
read_for_spec =
    tie.close
    (tie.spec
    (λ c. search rules) (λ c κs. search rules) (λ c. search rules) (λ c κs. search rules) (λ c. rw c.in-Sheet.is c.read_form.ensures)
    (λ c. rw c.in-Form.is c.read_sheet.ensures))
