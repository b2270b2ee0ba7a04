use Rattle.write_items.proofs.Laws.{next, used-fits}
use Rattle.report_spec.specs.Report.{count_text}
use Rattle.write_texts.specs.Parts.{head_text}
use borrow.Author.Rules.{rules}
use Rattle.write_texts.proofs.lines_of.put_head.Statement.{statement}
use Rattle.write_texts.proofs.lines_of.put_head.Tie as tie

pub put_head_spec : {M : Type 1} → statement M
unfolding head_text count_text
put_head_spec =
    tie.close
    (tie.spec
    (λ c κs. search rules) (λ c κs. search rules) (λ c κs. search rules) (λ c. search rules) (λ c. search rules) (λ c. search rules)
    (λ c κs. search rules) (λ c. search rules) (λ c. search rules) (λ c. search rules) (λ c. search rules) (λ c κs. search rules)
    (λ c. used-fits (next (next c.write_one-used.ensures c.write_one-used-2.ensures) c.write_initial.ensures) (search rules)) (λ c. search rules)
    (λ c. rw (c.places_of-places.ensures, c.initial_of-initial.ensures) at (next (next c.write_one-used.ensures c.write_one-used-2.ensures) c.write_initial.ensures)))
