use native.Mathlib.Omega.{arith}
use lib.ListN.{length}
use Prim.Native.Nat.{◌<◌, ◌≤◌}
use lib.Seq.{take_all}
use Rattle.write_items.proofs.Laws.{none, then}
use Rattle.sitting_shown.specs.Shown.{shown}
use Rattle.sitting_shown.proofs.Pieces.{shown-more}
use Rattle.sitting_shown.proofs.show.Goals as goal

pub loop-b-init : goal.loop-b-init
unfolding shown
loop-b-init c = none _ _

pub loop-b-preserved : goal.loop-b-preserved
loop-b-preserved c =
    let s = c.args.text.now in
    let h : c.loop-b.b-index < length s = omega arith in
    rw (shown-more c.args.among s c.loop-b.b-index h) (then c.loop-b.invariant c.show_byte-p.ensures)

pub returns : goal.returns
returns c =
    let s = c.args.text.now in
    let h : length s ≤ c.loop-b.b-index = omega arith in
    rw (take_all c.loop-b.b-index s h) at c.loop-b.invariant
