use mathlib.Core.Path.{◌≡◌, sym, ◌∙◌}
use native.Mathlib.Omega.{arith}
use Rattle.sets.proofs.Laws.{all_start, all_more, all-miss}
use Rattle.aeolus_correct.proofs.ports_hold.Goals as goal

pub loop-j-init : goal.loop-j-init
loop-j-init c = all_start _

pub returns-then-not-port_holds : goal.returns-then-not-port_holds
returns-then-not-port_holds c =
    rw (← c.kind_of.ensures, ← c.interfaces_of-n.ensures)
    (sym (all-miss c.interfaces_of-n.result _ c.loop-j.j (omega arith) (sym c.port_holds.ensures ∙ c.if-not-port_holds.true)))

pub loop-j-preserved : goal.loop-j-preserved
loop-j-preserved c = all_more _ _ c.loop-j.invariant (sym c.port_holds.ensures ∙ c.if-not-port_holds.false)

pub returns : goal.returns
returns c =
    let e : c.loop-j.j ≡ c.interfaces_of-n.result = omega arith in
    rw (← c.kind_of.ensures, ← c.interfaces_of-n.ensures) (sym (rw e at c.loop-j.invariant))
