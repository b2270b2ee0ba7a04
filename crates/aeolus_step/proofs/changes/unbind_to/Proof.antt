use mathlib.Core.Path.{◌∙◌}
use Rattle.aeolus_model.specs.Model.{with_bound}
use Rattle.aeolus_rules_spec.specs.Bind.{rebound}
use Rattle.aeolus_rules_spec.specs.Unbind.{parted}
use borrow.Author.Rules.{rules}
use Rattle.aeolus_step.proofs.changes.unbind_to.Statement.{statement}
use Rattle.aeolus_step.proofs.changes.unbind_to.Tie as tie

returns : tie.Need-returns
unfolding parted rebound with_bound
returns c = c.put_bound.ensures ∙ rw (c.without-m.ensures, c.only.ensures, c.bound_row.ensures, c.row_of-n.ensures)

pub unbind_to_spec : {M : Type 1} → statement M
unbind_to_spec = tie.close (tie.spec
    (λ c κs. search rules) (λ c κs. search rules) (λ c κs. search rules) (λ c κs. search rules) (λ c κs. search rules) returns)
