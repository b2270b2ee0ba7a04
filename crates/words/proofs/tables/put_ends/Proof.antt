use Rattle.words.proofs.InTables.{ends-put}
use borrow.Author.Rules.{rules}
use Rattle.words.proofs.tables.put_ends.Statement.{statement}
use Rattle.words.proofs.tables.put_ends.Tie as tie

returns : tie.Need-returns
returns c = rw c.put_row.ensures (ends-put _ c.put_row-arg-1.given.0.1 _ _ _)

pub put_ends_spec : {M : Type 1} → statement M
put_ends_spec = tie.close (tie.spec
    (λ c. search rules) (λ c κs. search rules) returns)
