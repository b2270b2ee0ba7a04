use borrow.Author.Rules.{rules}
use Rattle.read_items.proofs.numbers.held_by.Statement.{statement}
use Rattle.read_items.proofs.numbers.held_by.Tie as tie

pub held_by_spec : {M : Type 1} → statement M
held_by_spec =
    tie.close
    (tie.spec
    (λ c. search rules) (λ c κs. search rules) (λ c. search rules) (λ c κs. search rules) (λ c. search rules) (λ c κs. search rules)
    (λ c. search rules) (λ c κs. search rules) (λ c. rw (c.held_row.ensures, c.in-One.is)) (λ c. rw (c.held_row-in-Two.ensures, c.in-Two.is))
    (λ c. rw (c.held_row-in-Three.ensures, c.in-Three.is)) (λ c. rw (c.held_row-in-Four.ensures, c.in-Four.is)))
