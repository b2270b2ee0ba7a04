use borrow.Author.Tests.{eq-eqb, ne_eqb}
use Rattle.judge_spec.specs.Judged.{fault_place}
use borrow.Author.Rules.{rules}
use Rattle.judge_verdicts.proofs.fault_place.Statement.{statement}
use Rattle.judge_verdicts.proofs.fault_place.Tie as tie

returns : tie.Need-returns-in-1
unfolding fault_place
returns c = rw (eq-eqb _ 1 c.in-1.is, fault_place) c.empty_at.ensures

returns-2 : tie.Need-returns-in-50
unfolding fault_place
returns-2 c = rw c.in-50.is c.empty_at-in-50.ensures

returns-3 : tie.Need-returns-in_default
unfolding fault_place
returns-3 c = rw (ne_eqb _ 1 c.in_default.in_default-own.rest.0.1, ne_eqb _ 50 c.in_default.in_default-own.rest.1, fault_place) c.line_at.ensures

pub fault_place_spec : {M : Type 1} → statement M
fault_place_spec = tie.close (tie.spec
    (λ c κs. search rules) (λ c κs. search rules) (λ c κs. search rules) returns returns-2 returns-3)
