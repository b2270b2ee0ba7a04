use mathlib.Core.Path.{◌∙◌}
use Rattle.aeolus_model.specs.Model.{with_present, with_kind, with_state}
use Rattle.aeolus_rules_spec.specs.New.{added}
use borrow.Author.Rules.{rules}
use Rattle.aeolus_step.proofs.changes.add_to.Statement.{statement}
use Rattle.aeolus_step.proofs.changes.add_to.Tie as tie

returns : tie.Need-returns
unfolding added with_present with_kind with_state
returns c = c.put_state.ensures ∙ rw (c.put_kind.ensures, c.put_present.ensures, c.with-here.ensures, c.present.ensures, c.initial_of-first.ensures)

pub add_to_spec : {M : Type 1} → statement M
add_to_spec = tie.close (tie.spec
    (λ c κs. search rules) (λ c κs. search rules) (λ c κs. search rules) (λ c κs. search rules) (λ c κs. search rules) (λ c κs. search rules) returns)
