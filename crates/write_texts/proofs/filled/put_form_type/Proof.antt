use Rattle.write_items.proofs.Laws.{next}
use borrow.Author.Rules.{rules}
use Rattle.write_texts.proofs.filled.put_form_type.Statement.{statement}
use Rattle.write_texts.proofs.filled.put_form_type.Tie as tie

pub put_form_type_spec : {M : Type 1} → statement M
put_form_type_spec =
    tie.close
    (tie.spec
    (λ c κs. search rules) (λ c. search rules) (λ c. search rules) (λ c. search rules) (λ c κs. search rules) (λ c. search rules) (λ c. search rules)
    (λ c. next c.put_type_lines-used.ensures c.put_type_rows.ensures))
