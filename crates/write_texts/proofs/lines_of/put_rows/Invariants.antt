-- The rows below x are written.
use Rattle.words.specs.Words.{tables_in}
use Rattle.write_items.proofs.Turns.{Turns}
use Rattle.write_lines.specs.Rows.{row_text}
use Rattle.write_texts.specs.Parts.{row_at}
use Rattle.write_texts.proofs.lines_of.put_rows.Given as goal

abbrev pub invariant-loop-x : goal.invariant-loop-x
invariant-loop-x l = Turns (λ x. row_text l.rows (row_at l.rows (tables_in l.tables) l.i x)) l.count l.x l.initial.t l.t l.used
