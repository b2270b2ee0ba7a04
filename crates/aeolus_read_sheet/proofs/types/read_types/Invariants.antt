use Rattle.read_lines.proofs.Runs.{Upto}
use Rattle.aeolus_model.specs.Words.{universe_in}
use Rattle.aeolus_read_spec.specs.Texts.{type_at}
use Rattle.aeolus_read_sheet.proofs.types.read_types.Given as goal

-- so many have been read
abbrev pub invariant-loop-k : goal.invariant-loop-k
invariant-loop-k l = Upto type_at l.count 0 (universe_in l.initial.universe) l.text l.start l.k l.at (universe_in l.universe)
