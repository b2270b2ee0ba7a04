use mathlib.Core.Path.{◌∙◌}
use Rattle.aeolus_model.specs.Model.{with_bound}
use Rattle.aeolus_rules_spec.specs.Bind.{rebound, joined}
use borrow.Author.Rules.{rules}
use Rattle.aeolus_step.proofs.changes.bind_to.Statement.{statement}
use Rattle.aeolus_step.proofs.changes.bind_to.Tie as tie

returns : tie.Need-returns
unfolding joined rebound with_bound
returns c = c.put_bound.ensures ∙ rw (c.with-m.ensures, c.bound_row.ensures, c.row_of-n.ensures)

pub bind_to_spec : {M : Type 1} → statement M
bind_to_spec = tie.close (tie.spec
    (λ c κs. search rules) (λ c κs. search rules) (λ c κs. search rules) (λ c κs. search rules) returns)
