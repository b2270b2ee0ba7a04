use Rattle.write_items.proofs.Laws.{next}
use Rattle.report_spec.specs.Report.{count_text}
use Rattle.write_texts.specs.Layouts.{part_text}
use borrow.Author.Rules.{rules}
use Rattle.write_texts.proofs.lines_of.put_part.Statement.{statement}
use Rattle.write_texts.proofs.lines_of.put_part.Tie as tie

pub put_part_spec : {M : Type 1} → statement M
unfolding part_text count_text
put_part_spec =
    tie.close
    (tie.spec
    (λ c κs. search rules) (λ c κs. search rules) (λ c. search rules) (λ c. search rules) (λ c. search rules) (λ c κs. search rules)
    (λ c. search rules) (λ c. search rules) (λ c. rw c.part_count-count.ensures at (next c.write_one-used.ensures c.put_lines.ensures)))
