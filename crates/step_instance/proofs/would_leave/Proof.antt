use borrow.Author.Tests.{eq-eqb, ne_eqb, lt-ltb, le-ltb}
use Rattle.rules_spec.specs.Instance.{active, fired}
use Rattle.step_instance.specs.Alone.{leaves_by}
use borrow.Author.Rules.{rules}
use Rattle.step_instance.proofs.would_leave.Statement.{statement}
use Rattle.step_instance.proofs.would_leave.Tie as tie

returns : tie.Need-returns-then-p-ge16
unfolding leaves_by
returns c = rw (le-ltb _ _ c.if-p-ge16.true)

returns-2 : tie.Need-returns-then-xs-eq0
unfolding leaves_by
returns-2 c =
    let k = c in
    rw (lt-ltb _ _ k.if-p-ge16.false, ← k.kind-k.ensures, ← c.leaving-xs.ensures, eq-eqb _ _ c.if-xs-eq0.true)

returns-3 : tie.Need-returns
unfolding leaves_by active fired
returns-3 c =
    let j = c in
    let o = c in
    let h = c in
    let k = c in
    rw (lt-ltb _ _ k.if-p-ge16.false, ← k.kind-k.ensures, ← h.leaving-xs.ensures, ne_eqb _ _ h.if-xs-eq0.false, ← h.held.ensures, ← o.overlaps-free.ensures, ← o.marked.ensures, ← o.only.ensures, ← j.without-marks.ensures, ← j.running.ensures, ← j.joined-runs.ensures, ← c.ended.ensures, ← c.joined-holds.ensures, ← c.active_with.ensures)

pub would_leave_spec : {M : Type 1} → statement M
would_leave_spec =
    tie.close
    (tie.spec
    returns (λ c κs. search rules) (λ c κs. search rules) returns-2 (λ c κs. search rules) (λ c κs. search rules) (λ c κs. search rules)
    (λ c κs. search rules) (λ c κs. search rules) (λ c κs. search rules) (λ c κs. search rules) (λ c κs. search rules) (λ c κs. search rules)
    (λ c κs. search rules) returns-3)
