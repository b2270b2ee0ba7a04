use Rattle.write_items.proofs.Laws.{next}
use Rattle.report_spec.specs.Report.{count_text}
use Rattle.write_texts.specs.Parts.{first_text}
use borrow.Author.Rules.{rules}
use Rattle.write_texts.proofs.lines_of.put_first.Statement.{statement}
use Rattle.write_texts.proofs.lines_of.put_first.Tie as tie

pub put_first_spec : {M : Type 1} → statement M
unfolding first_text count_text
put_first_spec =
    tie.close
    (tie.spec
    (λ c κs. search rules) (λ c. search rules) (λ c. search rules) (λ c. search rules) (λ c κs. search rules) (λ c. search rules) (λ c. search rules)
    (λ c. next c.write_one-used.ensures c.write_one.ensures))
