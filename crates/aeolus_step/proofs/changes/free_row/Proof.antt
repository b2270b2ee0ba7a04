use mathlib.Core.Path.{◌∙◌}
use Rattle.aeolus_model.specs.Model.{with_bound}
use Rattle.aeolus_step.specs.Freed.{with_rows}
use borrow.Author.Rules.{rules}
use Rattle.aeolus_step.proofs.changes.free_row.Statement.{statement}
use Rattle.aeolus_step.proofs.changes.free_row.Tie as tie

returns : tie.Need-returns
unfolding with_bound with_rows
returns c = c.put_bound.ensures ∙ rw (c.left_of-m.ensures, c.bound_row.ensures)

pub free_row_spec : {M : Type 1} → statement M
free_row_spec = tie.close (tie.spec
    (λ c κs. search rules) (λ c κs. search rules) (λ c κs. search rules) returns)
