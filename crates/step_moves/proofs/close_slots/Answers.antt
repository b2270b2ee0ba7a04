use Rattle.std.proofs.Common.{◌≡◌, ◌+◌, ◌-◌, ◌∙◌, arith}
use Rattle.std.proofs.Math.Nat.{sub_self}
use Rattle.words.specs.Words.{state_in}
use Rattle.step_moves.proofs.Slots.{down-start, down-more, down-end}
use Rattle.step_moves.proofs.close_slots.Goals as goal

pub loop-to-init : goal.loop-to-init
loop-to-init c = record { within = omega arith; moved = rw (sub_self c.args.at) (down-start _ _) }

pub loop-to-preserved : goal.loop-to-preserved
loop-to-preserved c =
    let l = c.loop-to in
    let a = c.args in
    let here : a.at + (l.to - a.at) ≡ l.to = omega arith in
    let next : l.to - a.at + 1 ≡ l.to + 1 - a.at = omega arith in
    record { within = omega arith; moved = c.put_slot.ensures ∙ rw c.slot_at-x.ensures (rw (here, next) at (down-more _ a.at (state_in l.state) (l.to - a.at) l.invariant.moved)) }

pub returns : goal.returns
returns c =
    let l = c.loop-to in
    c.put_slot-2.ensures ∙ rw c.less-last.ensures (down-end _ _ (state_in l.state) (l.to - c.args.at) _ l.invariant.moved (omega arith) (omega arith))
