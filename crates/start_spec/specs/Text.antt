-- "the report's lines from `instances=` on, after a line `start=1`"
use Rattle.std.specs.Prelude.{ℕ, suc, Bool, List, leb, set}
use Rattle.item_spec.specs.Reader.{bytes}
use Rattle.model.specs.declared.Tables.{Tables}
use Rattle.model.specs.declared.Configuration.{Configuration}
use Rattle.model.specs.Empty.{start, none_begun, most_connections}
use Rattle.model.specs.View.{port_number}
use Rattle.read_spec.specs.Lines.{Lines, ◌>>=◌, ◌>>◌, hand_on, line, each, at_end}
use Rattle.read_spec.specs.Kinds.{due_line, count_line}
use Rattle.rules_spec.specs.Con.{connected}
use Rattle.start_spec.specs.Row.{instance_line, with_row, connection_line}

-- "with 1 past 8,192 bytes"
abbrev pub start_length_ok : ℕ → Bool
start_length_ok n = leb n 8192

abbrev pub instances_ok : ℕ → Bool
instances_ok n = leb n 32

abbrev pub connections_ok : ℕ → Bool
connections_ok n = leb n most_connections

-- the configuration so far; the least that may come next: an id, the number of a use port; and the last tickets so far
abbrev pub SoFar : Type 0
SoFar = Configuration × ℕ × List ℕ

unfoldable pub instance_at : ℕ → ℕ → Tables → ℕ → SoFar → Lines SoFar
instance_at e d t j x = do
  w ← line (instance_line e d t x.1)
  hand_on (with_row t x.0 w, suc w.id, set x.2 w.id w.last)

unfoldable pub connection_at : Tables → ℕ → SoFar → Lines SoFar
connection_at t j x = do
  k ← line (connection_line t x.0 x.1)
  hand_on (connected x.0 k, suc (port_number k.user k.useport), x.2)

-- where a paper starts: its configuration, and the stamp of the last ticket pushed to each instance
abbrev pub Outset : Type 0
Outset = Configuration × List ℕ

-- for a sheet that opens with e, on the tables t, where queues hold at most d: "The judge then starts there with the program at its first line"
unfoldable pub start_lines : ℕ → ℕ → Tables → Lines Outset
start_lines e d t = do
  line (due_line (bytes "start=") 1)
  n ← line (count_line (bytes "instances=") instances_ok)
  x ← each (instance_at e d t) n 0 (start, 0, none_begun.last)
  k ← line (count_line (bytes "connections=") connections_ok)
  y ← each (connection_at t) k 0 (x.0, 0, x.2)
  at_end
  hand_on (y.0, y.2)
