use borrow.Author.Rules.{rules}
use Rattle.write_texts.proofs.rows.step_at.Statement.{statement}
use Rattle.write_texts.proofs.rows.step_at.Tie as tie

pub step_at_spec : {M : Type 1} → statement M
step_at_spec =
    tie.close
    (tie.spec
    (λ c κs. search rules) (λ c κs. search rules) (λ c κs. search rules)
    (λ c. rw (c.step_verb-verb.ensures, c.step_id-id.ensures, c.step_number-number.ensures)))
