use Rattle.write_items.proofs.Laws.{next}
use Rattle.report_spec.specs.Report.{count_text}
use Rattle.write_texts.specs.Form.{form_first}
use borrow.Author.Rules.{rules}
use Rattle.write_texts.proofs.filled.put_form_first.Statement.{statement}
use Rattle.write_texts.proofs.filled.put_form_first.Tie as tie

pub put_form_first_spec : {M : Type 1} → statement M
unfolding form_first count_text
put_form_first_spec =
    tie.close
    (tie.spec
    (λ c κs. search rules) (λ c. search rules) (λ c. search rules) (λ c. search rules) (λ c κs. search rules) (λ c. search rules) (λ c. search rules)
    (λ c. next c.put_edition_row-used.ensures c.write_one.ensures))
