use Rattle.words.proofs.InTables.{no-tables}
use Rattle.words.proofs.tables.clear_tables.Statement.{statement}
use Rattle.words.proofs.tables.clear_tables.Tie as tie

returns : tie.Need-returns
returns c = no-tables

pub clear_tables_spec : {M : Type 1} → statement M
clear_tables_spec = tie.close (tie.spec
    returns)
