use Rattle.std.proofs.Common.{◌≡◌, ◌+◌, Bool, true, false, sym, ap, ◌∙◌, arith}
use Rattle.sets.specs.Mask.{with}
use Rattle.sets.proofs.Laws.{gather-in, gather-out}
use Rattle.model.specs.View.{port_number}
use Rattle.words.specs.Words.{state_in}
use Rattle.step_ports.specs.InUse.{served_by, higher, uses_of}
use Rattle.step_ports.proofs.InUse.{higher-at, uses-start}
use Rattle.step_ports.proofs.in_use.uses_of.Goals.{After-is_served_by}
use Rattle.step_ports.proofs.in_use.uses_of.Goals as goal

pub loop-q-init : goal.loop-q-init
loop-q-init c = uses-start _

-- the port looked at
own : (s : After-is_served_by) (b : Bool) → s.is_served_by.result ≡ b
    → let a = s.args in
    higher (λ r. served_by (state_in a.state.now).servers a.i (port_number a.u r)) (s.loop-q.q + 1) ≡ b
own s b e = higher-at _ s.loop-q.q ∙ sym s.is_served_by.ensures ∙ e

pub loop-q-preserved : goal.loop-q-preserved
loop-q-preserved c =
    let l = c.loop-q in
    let s = (goal.at.loop-q-preserved c).After-is_served_by in
    elim c.if-is_served_by.branch [
      | goal.then-is_served_by w ↦ w.ports-is ∙ w.with-ports.ensures ∙ ap (with (l.q + 1)) l.invariant ∙ gather-in (l.q + 1) _ (omega arith) (own s true w.if-is_served_by.true)
      | goal.else-is_served_by w ↦ w.ports-is ∙ l.invariant ∙ gather-out (l.q + 1) _ (own s false w.if-is_served_by.false)
    ]

pub returns : goal.returns
unfolding uses_of
returns c = let l = c.loop-q in let e : l.q ≡ 16 = omega arith in rw e at l.invariant
