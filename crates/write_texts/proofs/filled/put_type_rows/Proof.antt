use Rattle.write_items.proofs.Laws.{next, used-fits}
use Rattle.write_texts.specs.Form.{type_rows_text}
use borrow.Author.Rules.{rules}
use Rattle.write_texts.proofs.filled.put_type_rows.Statement.{statement}
use Rattle.write_texts.proofs.filled.put_type_rows.Tie as tie

pub put_type_rows_spec : {M : Type 1} → statement M
unfolding type_rows_text
put_type_rows_spec =
    tie.close
    (tie.spec
    (λ c κs. search rules) (λ c κs. search rules) (λ c κs. search rules) (λ c κs. search rules) (λ c. search rules) (λ c. search rules)
    (λ c. search rules) (λ c κs. search rules) (λ c. search rules) (λ c. search rules) (λ c. search rules) (λ c. search rules) (λ c κs. search rules)
    (λ c. used-fits (next (next c.put_rows-used.ensures c.put_rows-used-2.ensures) c.put_rows.ensures) (search rules)) (λ c. search rules)
    (λ c. rw (c.count_of-ends.ensures, c.count_of-sets.ensures, c.count_of-groups.ensures) at (next (next c.put_rows-used.ensures c.put_rows-used-2.ensures) c.put_rows.ensures)))
