use borrow.Author.Rules.{rules}
use Rattle.write_texts.proofs.rows.transition_at.Statement.{statement}
use Rattle.write_texts.proofs.rows.transition_at.Tie as tie

pub transition_at_spec : {M : Type 1} → statement M
transition_at_spec =
    tie.close
    (tie.spec
    (λ c κs. search rules) (λ c κs. search rules) (λ c. rw (c.source-from.ensures, c.destination-to.ensures)))
