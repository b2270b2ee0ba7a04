use Rattle.std.proofs.Common.{ℕ, List}
use Rattle.read_lines.proofs.Runs.{Upto}
use Rattle.start_spec.specs.Text.{connection_at}
use Rattle.words.specs.Words.{tables_in, state_in}
use Rattle.read_start.proofs.read_connections.Given as goal

abbrev pub invariant-loop : goal.invariant-loop
invariant-loop l =
    (lasts : List ℕ) → Upto (connection_at (tables_in l.tables)) l.count 0
    (state_in l.initial.state, 0, lasts) l.text l.start l.counter l.stood.at (state_in l.state, l.stood.least, lasts)
