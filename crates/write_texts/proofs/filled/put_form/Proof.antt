use Rattle.write_items.proofs.Laws.{next, used-fits}
use Rattle.write_texts.specs.Form.{form_lines}
use borrow.Author.Rules.{rules}
use Rattle.write_texts.proofs.filled.put_form.Statement.{statement}
use Rattle.write_texts.proofs.filled.put_form.Tie as tie

pub put_form_spec : {M : Type 1} → statement M
unfolding form_lines
put_form_spec =
    tie.close
    (tie.spec
    (λ c κs. search rules) (λ c κs. search rules) (λ c κs. search rules) (λ c κs. search rules) (λ c κs. search rules) (λ c. search rules)
    (λ c. search rules) (λ c. search rules) (λ c κs. search rules) (λ c. search rules) (λ c. search rules) (λ c. search rules) (λ c. search rules)
    (λ c κs. search rules) (λ c. used-fits (next (next c.put_form_first-used.ensures c.put_lines-used.ensures) c.put_lines.ensures) (search rules))
    (λ c. search rules)
    (λ c.
    let e = c in
    rw (e.edition.ensures, e.depth-deep.ensures, e.types-count.ensures, e.instructions-lines.ensures)
    at (next (next c.put_form_first-used.ensures c.put_lines-used.ensures) c.put_lines.ensures)))
