use Rattle.form_lib.proofs.Laws.{form-long, form-said}
use borrow.Author.Rules.{rules}
use Rattle.form_lib.proofs.read_form.Statement.{statement}
use Rattle.form_lib.proofs.read_form.Tie as tie

pub read_form_spec : {M : Type 1} → statement M
read_form_spec =
    tie.close
    (tie.spec
    (λ c κs. search rules) (λ c κs. search rules) (λ c. form-long _ c.if-rows-gt-LONGEST.true c.clear_tables.ensures c.clear_program.ensures)
    (λ c. search rules) (λ c κs. search rules) (λ c. form-said _ c.if-rows-gt-LONGEST.false c.read_rows.ensures))
