use borrow.Author.Rules.{rules}
use Rattle.aeolus_read_sheet.proofs.types.put_line.Statement.{statement}
use Rattle.aeolus_read_sheet.proofs.types.put_line.Tie as tie

pub put_line_spec : {M : Type 1} → statement M
put_line_spec =
    tie.close
    (tie.spec
    (λ c. search rules) (λ c κs. search rules) (λ c. search rules) (λ c κs. search rules) (λ c. search rules) (λ c κs. search rules)
    (λ c. search rules) (λ c κs. search rules) (λ c. rw c.in-Initial.is c.put_initial.ensures) (λ c. rw c.in-Interface.is c.put_interface.ensures)
    (λ c. rw c.in-To.is c.put_to.ensures) (λ c. rw c.in-Row.is c.put_number.ensures))
