use Rattle.words.proofs.InTables.{type_put}
use borrow.Author.Rules.{rules}
use Rattle.words.proofs.tables.put_type.Statement.{statement}
use Rattle.words.proofs.tables.put_type.Tie as tie

returns : tie.Need-returns
returns c = rw c.put_row.ensures (type_put _ c.put_row-arg-1.given.0.1 _ _ _ _ _ _)

pub put_type_spec : {M : Type 1} → statement M
put_type_spec = tie.close (tie.spec
    (λ c. search rules) (λ c κs. search rules) returns)
