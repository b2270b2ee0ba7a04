use mathlib.Core.Path.{◌∙◌}
use Rattle.start_spec.specs.Row.{with_row, placed}
use Rattle.read_start.proofs.RowLines.{added-empty}
use Rattle.read_start.proofs.rows.with_row.Goals as goal

pub returns-clause-state : goal.returns-clause-state
unfolding with_row placed
returns-clause-state c = λ few. c.put_sets.ensures ∙ rw (c.push_all.ensures few (rw c.add_to.ensures (added-empty _ _ _ _)), c.add_to.ensures)
