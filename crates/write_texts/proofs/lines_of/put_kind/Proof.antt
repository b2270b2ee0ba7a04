use Rattle.write_items.proofs.Laws.{next, used-fits}
use Rattle.report_spec.specs.Report.{count_text}
use Rattle.write_texts.specs.Parts.{kind_text}
use borrow.Author.Rules.{rules}
use Rattle.write_texts.proofs.lines_of.put_kind.Statement.{statement}
use Rattle.write_texts.proofs.lines_of.put_kind.Tie as tie

pub put_kind_spec : {M : Type 1} → statement M
unfolding kind_text count_text
put_kind_spec =
    tie.close
    (tie.spec
    (λ c κs. search rules) (λ c κs. search rules) (λ c. search rules) (λ c. search rules) (λ c. search rules) (λ c κs. search rules)
    (λ c. used-fits (next c.write_one-used.ensures c.put_rows.ensures) (search rules)) (λ c. search rules)
    (λ c. rw c.count_of-count.ensures at (next c.write_one-used.ensures c.put_rows.ensures)))
