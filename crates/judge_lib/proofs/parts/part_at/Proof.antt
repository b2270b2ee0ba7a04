use Rattle.judge_lib.proofs.Places.{elsewhere}
use borrow.Author.Rules.{rules}
use Rattle.judge_lib.proofs.parts.part_at.Statement.{statement}
use Rattle.judge_lib.proofs.parts.part_at.Tie as tie

pub part_at_spec : {M : Type 1} → statement M
part_at_spec =
    tie.close
    (tie.spec
    (λ c. search rules) (λ c κs. search rules) (λ c. search rules) (λ c κs. search rules) (λ c κs. search rules)
    (λ c. rw c.in-Sheet.is c.part_of.ensures) (λ c. rw c.in-Start.is c.part_of-in-Start.ensures)
    (λ c. rw (elsewhere _ c.in_default.in_default-own.keys3 _ _ _) c.part_of-in_default.ensures))
