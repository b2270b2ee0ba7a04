-- The lines below i are written.
use Rattle.words.specs.Words.{tables_in, program_in}
use Rattle.write_items.proofs.Turns.{Turns}
use Rattle.write_texts.specs.Layouts.{line_as}
use Rattle.write_texts.proofs.lines_of.put_lines.Given as goal

abbrev pub invariant-loop-i : goal.invariant-loop-i
invariant-loop-i l = Turns (line_as l.layout l.part (tables_in l.tables) (program_in l.program)) l.count l.i l.initial.t l.t l.used
