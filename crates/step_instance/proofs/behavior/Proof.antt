use borrow.Author.Tests.{eq-eqb, ne_eqb}
use Rattle.rules_spec.specs.Instance.{current}
use borrow.Author.Rules.{rules}
use Rattle.step_instance.proofs.behavior.Statement.{statement}
use Rattle.step_instance.proofs.behavior.Tie as tie

returns : tie.Need-returns-then-queued-eq0
unfolding current
returns c = rw (← c.queued.ensures, eq-eqb _ _ c.if-queued-eq0.true)

returns-2 : tie.Need-returns
unfolding current
returns-2 c =
    let a = c in
    rw (← a.queued.ensures, ne_eqb _ _ a.if-queued-eq0.false, ← c.kind.ensures, ← c.slot.ensures) c.behavior_of.ensures

pub behavior_spec : {M : Type 1} → statement M
behavior_spec = tie.close (tie.spec
    (λ c κs. search rules) returns (λ c κs. search rules) (λ c κs. search rules) (λ c κs. search rules) returns-2)
