use Rattle.read_lines.proofs.Runs.{Upto}
use Rattle.words.specs.Words.{tables_in}
use Rattle.read_sheet.specs.Form.{type_by}
use Rattle.read_sheet.proofs.filled.read_types.Given as goal

-- so many types have been read
abbrev pub invariant-loop-i : goal.invariant-loop-i
invariant-loop-i l = Upto (type_by l.form) l.count 0 (tables_in l.initial.tables) l.text l.start l.i l.at (tables_in l.tables)
