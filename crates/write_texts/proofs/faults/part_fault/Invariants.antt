-- The lines below i have no number.
use Rattle.std.proofs.Common.{◌≡◌}
use Rattle.words.specs.Words.{tables_in, program_in}
use Rattle.write_spec.specs.Texts.{first_of}
use Rattle.write_texts.specs.Parts.{line_fault}
use Rattle.write_texts.proofs.faults.part_fault.Given as goal

abbrev pub invariant-loop-i : goal.invariant-loop-i
invariant-loop-i l = first_of (line_fault l.part (tables_in l.tables) (program_in l.program)) l.i ≡ 0
