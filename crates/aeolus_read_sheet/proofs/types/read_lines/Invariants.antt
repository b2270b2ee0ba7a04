use Rattle.read_lines.proofs.Runs.{Upto}
use Rattle.aeolus_model.specs.Words.{universe_in}
use Rattle.aeolus_read_lines.specs.Kinds.{line_at}
use Rattle.aeolus_read_sheet.proofs.types.read_lines.Given as goal

-- so many have been read
abbrev pub invariant-loop-i : goal.invariant-loop-i
invariant-loop-i l = Upto (line_at l.kind l.k) l.count 0 (universe_in l.initial.universe) l.text l.start l.i l.at (universe_in l.universe)
