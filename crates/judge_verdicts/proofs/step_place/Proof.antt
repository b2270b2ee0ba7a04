use borrow.Author.Tests.{eq-eqb, ne_eqb}
use Rattle.judge_spec.specs.Judged.{step_place}
use borrow.Author.Rules.{rules}
use Rattle.judge_verdicts.proofs.step_place.Statement.{statement}
use Rattle.judge_verdicts.proofs.step_place.Tie as tie

returns : tie.Need-returns-in-0
unfolding step_place
returns c = rw (eq-eqb _ 0 c.in-0.is, step_place) c.empty_at.ensures

returns-2 : tie.Need-returns-in_default
unfolding step_place
returns-2 c = rw (ne_eqb _ 0 c.in_default.in_default-own.rest.1, step_place, ← c.step_start-start.ensures) c.line_at.ensures

pub step_place_spec : {M : Type 1} → statement M
step_place_spec = tie.close (tie.spec
    (λ c κs. search rules) (λ c κs. search rules) (λ c κs. search rules) returns returns-2)
