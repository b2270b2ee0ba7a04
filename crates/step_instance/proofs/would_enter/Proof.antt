use borrow.Author.Tests.{eq-eqb, ne_eqb}
use Rattle.rules_spec.specs.Instance.{active, entered}
use Rattle.rules_spec.specs.Ports.{would_enter}
use borrow.Author.Rules.{rules}
use Rattle.step_instance.proofs.would_enter.Statement.{statement}
use Rattle.step_instance.proofs.would_enter.Tie as tie

returns : tie.Need-returns-then-xs-eq0
unfolding would_enter
returns c = let x = c in rw (← x.kind-k.ensures, ← x.entering-xs.ensures, eq-eqb _ _ c.if-xs-eq0.true)

returns-2 : tie.Need-returns
unfolding would_enter active entered
returns-2 c =
    let j = c in
    let r = c in
    let w = c in
    let e = c in
    let x = c in
    rw (← x.kind-k.ensures, ← x.entering-xs.ensures, ne_eqb _ _ e.if-xs-eq0.false, ← e.ended-ends.ensures, ← w.marked-marks.ensures, ← w.within-ready.ensures, ← r.member-free.ensures, ← r.running.ensures, ← j.without-runs.ensures, ← j.without.ensures, ← j.joined-holds.ensures, ← c.with.ensures, ← c.active_with.ensures)

pub would_enter_spec : {M : Type 1} → statement M
would_enter_spec = tie.close (tie.spec
    (λ c κs. search rules) (λ c κs. search rules) returns (λ c κs. search rules) (λ c κs. search rules) (λ c κs. search rules) (λ c κs. search rules)
    (λ c κs. search rules) (λ c κs. search rules) (λ c κs. search rules) (λ c κs. search rules) (λ c κs. search rules) (λ c κs. search rules)
    returns-2)
