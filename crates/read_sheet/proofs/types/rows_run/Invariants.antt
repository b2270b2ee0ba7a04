use Prim.Native.Nat.{◌*◌}
use Rattle.read_lines.proofs.Runs.{Upto}
use Rattle.words.specs.Words.{tables_in}
use Rattle.read_sheet.specs.Rows.{per_type, row}
use Rattle.read_sheet.proofs.types.rows_run.Given as goal

-- so many rows have been read
abbrev pub invariant-loop-i : goal.invariant-loop-i
invariant-loop-i l = Upto (row l.rows l.known) l.count (l.kind * per_type l.rows) (tables_in l.initial.tables) l.text l.start l.i l.at (tables_in l.tables)
