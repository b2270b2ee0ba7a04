use mathlib.Core.Path.{◌≡◌}
use lib.ListN.{length}
use Rattle.form_cells.specs.Cells.{looked_at}
use Rattle.form_cells.proofs.looked_at.Given as goal

abbrev pub invariant-loop-looked : goal.invariant-loop-looked
invariant-loop-looked l = looked_at l.looked ≡ looked_at l.lines

abbrev pub decreases-loop-looked : goal.decreases-loop-looked
decreases-loop-looked l = length l.looked
