use mathlib.Core.Path.{◌≡◌}
use Rattle.form_cells.proofs.Laws.{up_to}
use Rattle.form_cells.proofs.put_cells.Given as goal

abbrev pub invariant-loop-c : goal.invariant-loop-c
invariant-loop-c l = l.c-items ≡ up_to l.initial.c-items l.c-index
