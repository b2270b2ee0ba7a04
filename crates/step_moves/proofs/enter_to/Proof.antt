use mathlib.Core.Path.{◌∙◌}
use Rattle.rules_spec.specs.Instance.{entered}
use Rattle.rules_spec.specs.Enter.{enter_to}
use borrow.Author.Rules.{rules}
use Rattle.step_moves.proofs.enter_to.Statement.{statement}
use Rattle.step_moves.proofs.enter_to.Tie as tie

pub enter_to_spec : {M : Type 1} → statement M
unfolding enter_to entered
enter_to_spec =
    tie.close
    (tie.spec
    (λ c κs. search rules) (λ c κs. search rules) (λ c κs. search rules) (λ c κs. search rules) (λ c κs. search rules) (λ c κs. search rules)
    (λ c κs. search rules) (λ c κs. search rules)
    (λ c. c.put_sets.ensures ∙ rw (c.without-ends.ensures, c.ended.ensures, c.without-runs.ensures, c.running.ensures, c.with-marks.ensures, c.marked.ensures, c.enterers-xs.ensures)))
