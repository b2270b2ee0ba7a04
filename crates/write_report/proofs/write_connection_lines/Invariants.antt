-- The lines of the use ports below s are written, and those that are left are counted.
use Rattle.std.proofs.Common.{◌≡◌, ◌+◌}
use Rattle.sets.specs.Test.{tally}
use Rattle.model.specs.View.{is_served}
use Rattle.report_spec.proofs.Lines.{line_at}
use Rattle.words.specs.Words.{state_in}
use Rattle.write_items.proofs.Turns.{Turns}
use Rattle.write_report.proofs.write_connection_lines.Given as goal

abbrev pub invariant-loop-s : goal.invariant-loop-s
invariant-loop-s l =
    (l.left + tally l.s (is_served (state_in l.state).servers) ≡ l.n) × Turns (line_at (state_in l.state).servers) 512 l.s l.initial.t l.t l.used
