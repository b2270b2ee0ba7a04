use mathlib.Core.Path.{◌∙◌}
use Rattle.rules_spec.specs.Instance.{ended_by}
use Rattle.rules_spec.specs.End.{end_to}
use borrow.Author.Rules.{rules}
use Rattle.step_moves.proofs.end_to.Statement.{statement}
use Rattle.step_moves.proofs.end_to.Tie as tie

pub end_to_spec : {M : Type 1} → statement M
unfolding end_to ended_by
end_to_spec =
    tie.close
    (tie.spec
    (λ c κs. search rules) (λ c κs. search rules) (λ c κs. search rules) (λ c κs. search rules) (λ c κs. search rules) (λ c κs. search rules)
    (λ c κs. search rules)
    (λ c. c.put_sets.ensures ∙ rw (c.with-ends.ensures, c.ended.ensures, c.without-runs.ensures, c.only.ensures, c.running.ensures, c.marked-marks.ensures)))
