use Rattle.write_items.proofs.Laws.{next}
use Rattle.report_spec.specs.Report.{count_text}
use Rattle.write_texts.specs.Form.{type_lines_text}
use borrow.Author.Rules.{rules}
use Rattle.write_texts.proofs.filled.put_type_lines.Statement.{statement}
use Rattle.write_texts.proofs.filled.put_type_lines.Tie as tie

pub put_type_lines_spec : {M : Type 1} → statement M
unfolding type_lines_text count_text
put_type_lines_spec =
    tie.close
    (tie.spec
    (λ c κs. search rules) (λ c κs. search rules) (λ c κs. search rules) (λ c. search rules) (λ c. search rules) (λ c. search rules)
    (λ c κs. search rules) (λ c. search rules) (λ c. search rules)
    (λ c. rw (c.places_of-places.ensures, c.initial_of-initial.ensures) at (next c.write_one-used.ensures c.write_initial.ensures)))
