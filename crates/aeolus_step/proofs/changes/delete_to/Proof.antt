use mathlib.Core.Path.{◌∙◌}
use Rattle.aeolus_model.specs.Model.{with_present, with_kind, with_state}
use Rattle.aeolus_rules_spec.specs.Del.{deleted}
use Rattle.aeolus_step.specs.Freed.{with_rows}
use borrow.Author.Rules.{rules}
use Rattle.aeolus_step.proofs.changes.delete_to.Statement.{statement}
use Rattle.aeolus_step.proofs.changes.delete_to.Tie as tie

returns : tie.Need-returns
unfolding deleted with_rows with_present with_kind with_state
returns c = c.free_rows.ensures ∙ rw (c.put_state.ensures, c.put_kind.ensures, c.put_present.ensures, c.without-here.ensures, c.only.ensures, c.present.ensures)

pub delete_to_spec : {M : Type 1} → statement M
delete_to_spec = tie.close (tie.spec
    (λ c κs. search rules) (λ c κs. search rules) (λ c κs. search rules) (λ c κs. search rules) (λ c κs. search rules) (λ c κs. search rules)
    (λ c κs. search rules) returns)
