use borrow.Author.Rules.{rules}
use Rattle.write_texts.proofs.rows.behavior_at.Statement.{statement}
use Rattle.write_texts.proofs.rows.behavior_at.Tie as tie

pub behavior_at_spec : {M : Type 1} → statement M
behavior_at_spec = tie.close (tie.spec
    (λ c κs. search rules) (λ c. rw c.behavior_of-transitions.ensures))
