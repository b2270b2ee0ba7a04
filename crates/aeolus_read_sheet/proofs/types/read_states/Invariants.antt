use Rattle.read_lines.proofs.Runs.{Upto}
use Rattle.aeolus_model.specs.Words.{universe_in}
use Rattle.aeolus_read_spec.specs.Texts.{state_at}
use Rattle.aeolus_read_sheet.proofs.types.read_states.Given as goal

-- so many have been read
abbrev pub invariant-loop-q : goal.invariant-loop-q
invariant-loop-q l = Upto (state_at l.k) l.count 0 (universe_in l.initial.universe) l.text l.start l.q l.at (universe_in l.universe)
