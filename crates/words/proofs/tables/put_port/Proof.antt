use Rattle.words.proofs.InTables.{port-put}
use borrow.Author.Rules.{rules}
use Rattle.words.proofs.tables.put_port.Statement.{statement}
use Rattle.words.proofs.tables.put_port.Tie as tie

returns : tie.Need-returns
returns c = rw c.put_row.ensures (port-put _ c.put_row-arg-1.given.0.1 _ _ _ _)

pub put_port_spec : {M : Type 1} → statement M
put_port_spec = tie.close (tie.spec
    (λ c. search rules) (λ c κs. search rules) returns)
