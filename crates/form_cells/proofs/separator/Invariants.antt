use mathlib.Core.Path.{◌≡◌}
use lib.ListN.{drop}
use Rattle.form_cells.specs.Cells.{separator_of}
use Rattle.form_cells.proofs.separator.Given as goal

abbrev pub invariant-loop-c : goal.invariant-loop-c
invariant-loop-c l = separator_of (drop l.c-index l.rows) ≡ separator_of l.rows
