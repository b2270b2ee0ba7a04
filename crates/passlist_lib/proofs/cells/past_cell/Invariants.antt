use Rattle.std.proofs.Common.{◌≡◌, drop}
use Rattle.passlist_spec.specs.Row.{past_cell}
use Rattle.passlist_lib.proofs.cells.past_cell.Given as goal

abbrev pub invariant-loop-i : goal.invariant-loop-i
invariant-loop-i l = past_cell l.cell (drop l.i l.row) ≡ past_cell l.cell (drop l.at l.row)
