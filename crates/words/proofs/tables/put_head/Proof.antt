use Rattle.words.proofs.InTables.{tables-head}
use borrow.Author.Rules.{rules}
use Rattle.words.proofs.tables.put_head.Statement.{statement}
use Rattle.words.proofs.tables.put_head.Tie as tie

returns : tie.Need-returns
returns c = let d = c in rw (c.put_at-2.ensures, d.put_at.ensures) (tables-head _ _ _ d.put_at-arg-1.given.0.1)

pub put_head_spec : {M : Type 1} → statement M
put_head_spec = tie.close (tie.spec
    (λ c κs. search rules) (λ c κs. search rules) returns)
