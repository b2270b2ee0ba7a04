-- The lines of the ids below i are written.
use Rattle.start_spec.specs.Round.{row_at}
use Rattle.words.specs.Words.{state_in}
use Rattle.write_items.proofs.Turns.{Turns}
use Rattle.write_report.proofs.start.write_row_lines.Given as goal

abbrev pub invariant-loop-i : goal.invariant-loop-i
invariant-loop-i l = Turns (row_at l.first l.lasts (state_in l.state)) 32 l.i l.initial.t l.t l.used
