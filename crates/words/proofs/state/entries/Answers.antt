use Rattle.std.proofs.Common.{◌≡◌, sym, ◌∙◌, arith, eq-eqb, ne_eqb}
use Rattle.sets.proofs.Laws.{tally-start, tally-in, tally-out}
use Rattle.sets.proofs.Tally.{tally-both}
use Rattle.model.specs.View.{is_served}
use Rattle.rules_spec.proofs.Connections.{count-is}
use Rattle.words.specs.Words.{state_in}
use Rattle.words.proofs.InState.{servers-length}
use Rattle.words.proofs.state.entries.Goals as goal

pub loop-s-init : goal.loop-s-init
loop-s-init c = record { few = omega arith; counted = sym (tally-start _) }

pub loop-s-preserved : goal.loop-s-preserved
unfolding is_served
loop-s-preserved c =
    let l = c.loop-s in
    let read = c.server.ensures in
    elim c.if-server-eq0.branch [
      | goal.then-server-eq0 w ↦ record { few = omega (arith, w.free-is); counted = w.free-is ∙ rw l.invariant.counted (sym (tally-in _ _ (rw (← read, eq-eqb _ _ w.if-server-eq0.true)))) }
      | goal.else-server-eq0 w ↦ record { few = omega (arith, w.free-is); counted = w.free-is ∙ rw l.invariant.counted (sym (tally-out _ _ (rw (← read, ne_eqb _ _ w.if-server-eq0.false)))) }
    ]

pub returns : goal.returns
returns c =
    let l = c.loop-s in
    let x = (state_in c.args.state.now).servers in
    let e : l.s ≡ 512 = omega arith in
    let free = rw e at l.invariant.counted in
    record { value = omega (arith, free, tally-both 512 (is_served x), count-is x (servers-length _)); small = omega arith }
