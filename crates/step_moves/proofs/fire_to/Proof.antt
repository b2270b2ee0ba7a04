use mathlib.Core.Path.{◌∙◌}
use Rattle.rules_spec.specs.Instance.{fired}
use Rattle.rules_spec.specs.Fire.{fire_to}
use borrow.Author.Rules.{rules}
use Rattle.step_moves.proofs.fire_to.Statement.{statement}
use Rattle.step_moves.proofs.fire_to.Tie as tie

pub fire_to_spec : {M : Type 1} → statement M
unfolding fire_to fired
fire_to_spec =
    tie.close
    (tie.spec
    (λ c κs. search rules) (λ c κs. search rules) (λ c κs. search rules) (λ c κs. search rules) (λ c κs. search rules) (λ c κs. search rules)
    (λ c κs. search rules) (λ c κs. search rules)
    (λ c. c.put_sets.ensures ∙ rw (c.without-marks.ensures, c.only.ensures, c.marked.ensures, c.joined-runs.ensures, c.running.ensures, c.leavers-xs.ensures, c.ended-ends.ensures)))
