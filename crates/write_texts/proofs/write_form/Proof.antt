use Rattle.write_texts.proofs.Whole.{in_cells}
use Rattle.write_texts.specs.Form.{form_text}
use borrow.Author.Rules.{rules}
use Rattle.write_texts.proofs.write_form.Statement.{statement}
use Rattle.write_texts.proofs.write_form.Tie as tie

pub write_form_spec : {M : Type 1} → statement M
unfolding form_text
write_form_spec =
    tie.close
    (tie.spec
    (λ c κs. search rules) (λ c κs. search rules) (λ c. search rules) (λ c. in_cells c.write_text-written.ensures c.put_cells.ensures))
