-- The rows below x have no number.
use Rattle.std.proofs.Common.{◌≡◌}
use Rattle.words.specs.Words.{tables_in}
use Rattle.write_lines.specs.Rows.{row_fault}
use Rattle.write_spec.specs.Texts.{first_of}
use Rattle.write_texts.specs.Parts.{row_at}
use Rattle.write_texts.proofs.faults.kind_fault.Given as goal

abbrev pub invariant-loop-x : goal.invariant-loop-x
invariant-loop-x l = first_of (λ x. row_fault l.rows l.known (row_at l.rows (tables_in l.tables) l.i x)) l.x ≡ 0
