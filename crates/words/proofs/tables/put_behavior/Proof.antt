use Rattle.words.proofs.InTables.{behavior-put}
use borrow.Author.Rules.{rules}
use Rattle.words.proofs.tables.put_behavior.Statement.{statement}
use Rattle.words.proofs.tables.put_behavior.Tie as tie

returns : tie.Need-returns
returns c = rw c.put_row.ensures (behavior-put _ c.put_row-arg-1.given.0.1 _ _)

pub put_behavior_spec : {M : Type 1} → statement M
put_behavior_spec = tie.close (tie.spec
    (λ c. search rules) (λ c κs. search rules) returns)
