use mathlib.Core.List.{append_assoc}
use Rattle.write_items.proofs.Laws.{next, used-fits}
use Rattle.report_spec.specs.Report.{count_text}
use Rattle.write_spec.specs.Texts.{answer_text}
use borrow.Author.Rules.{rules}
use Rattle.write_texts.proofs.lines_of.put_answer.Statement.{statement}
use Rattle.write_texts.proofs.lines_of.put_answer.Tie as tie

pub put_answer_spec : {M : Type 1} → statement M
unfolding answer_text count_text
put_answer_spec =
    tie.close
    (tie.spec
    (λ c κs. search rules) (λ c κs. search rules) (λ c. search rules) (λ c. search rules) (λ c. search rules) (λ c κs. search rules)
    (λ c. search rules) (λ c. search rules) (λ c. search rules) (λ c. search rules) (λ c κs. search rules)
    (λ c. used-fits (next (next c.write_one-used.ensures c.write_one-used-2.ensures) c.put_steps.ensures) (search rules)) (λ c. search rules)
    (λ c. rw c.steps-count.ensures at (simp append_assoc at (next (next c.write_one-used.ensures c.write_one-used-2.ensures) c.put_steps.ensures))))
