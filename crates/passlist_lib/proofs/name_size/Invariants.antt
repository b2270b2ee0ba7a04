use mathlib.Core.List.{◌++◌}
use mathlib.Core.Path.{◌≡◌}
use lib.ListN.{take, drop}
use Rattle.passlist_spec.specs.Row.{name_cell}
use Rattle.passlist_lib.proofs.name_size.Given as goal

abbrev pub invariant-loop-i : goal.invariant-loop-i
invariant-loop-i l = take l.i l.row ++ name_cell (drop l.i l.row) ≡ name_cell l.row
