-- The line of a row, by the kind of the row: the kinds of lines of crate reading, each with its values in one record.
use Rattle.std.specs.Prelude.{ℕ}
use Rattle.item_spec.specs.Reader.{Reader, ◌>>=◌, ◌>>◌, give, check}
use Rattle.read_spec.specs.Limits.{use_ok}
use Rattle.read_spec.specs.Kinds.{group, tran_line, behavior_line, port_line}
use Rattle.read_sheet_lines.specs.declared.Known.{Known}
use Rattle.read_sheet_lines.specs.declared.Row.{Row}
use Rattle.read_sheet_lines.specs.declared.Rows.{Rows}
use Rattle.read_sheet_lines.specs.declared.Rows.TheVariants.{Transitions, Behaviors, Ports}

abbrev pub transition_row : ℕ → ℕ → Row
transition_row a b = record { source = a; destination = b; uses = 0; places = 0; transitions = 0 }

abbrev pub behavior_row : ℕ → Row
behavior_row m = record { source = 0; destination = 0; uses = 0; places = 0; transitions = m }

abbrev pub port_row : ℕ → ℕ → ℕ → Row
port_row u a b = record { source = 0; destination = 0; uses = u; places = a; transitions = b }

-- in a type of which c is known
unfoldable pub row_line : Rows → Known → Reader Row
row_line Transitions c = do
  (a, b) ← tran_line c.places
  give (transition_row a b)
row_line Behaviors c = do
  m ← behavior_line c.transitions
  give (behavior_row m)
row_line Ports c = do
  (u, a, b) ← port_line c.places c.transitions c.initial
  give (port_row u a b)

-- what follows `port=use,` and `port=provide,`: a port of kind u, in a type of n places and k transitions, whose places are none of the set m
unfoldable pub port_after : ℕ → ℕ → ℕ → ℕ → Reader Row
port_after u n k m = do
  (a, b) ← group n k
  check (use_ok m a) 4
  give (port_row u a b)
