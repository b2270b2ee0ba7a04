use Rattle.model.specs.Empty.{no_tables}
use Rattle.read_spec.specs.Fill.{headed}
use borrow.Author.Rules.{rules}
use Rattle.words.proofs.tables.start_tables.Statement.{statement}
use Rattle.words.proofs.tables.start_tables.Tie as tie

returns : tie.Need-returns
unfolding headed no_tables
returns c = rw (c.put_head.ensures, c.clear_tables.ensures)

pub start_tables_spec : {M : Type 1} → statement M
start_tables_spec = tie.close (tie.spec
    (λ c κs. search rules) (λ c κs. search rules) returns)
