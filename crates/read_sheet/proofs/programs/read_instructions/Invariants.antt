use Rattle.read_spec.specs.Texts.{instruction_at}
use Rattle.read_lines.proofs.Runs.{Upto}
use Rattle.words.specs.Words.{program_in}
use Rattle.read_sheet.proofs.programs.read_instructions.Given as goal

-- so many instructions have been read
abbrev pub invariant-loop-i : goal.invariant-loop-i
invariant-loop-i l = Upto (instruction_at l.edition l.types) l.count 0 (program_in l.initial.program) l.text l.start l.i l.at (program_in l.program)
