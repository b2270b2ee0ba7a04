use mathlib.Core.Path.{◌≡◌, refl, sym, ◌∙◌}
use native.Mathlib.Omega.{arith}
use lib.ListN.{length}
use Rattle.passlist_lib.proofs.Laws.{name-here, name-next, name-over}
use Rattle.passlist_lib.proofs.name_size.Goals as goal

pub loop-i-init : goal.loop-i-init
loop-i-init c = refl

pub returns-then-b-eq44-clause-cell : goal.returns-then-b-eq44-clause-cell
returns-then-b-eq44-clause-cell c = sym (name-here c.args.row.now c.loop-i.i (omega arith) c.if-b-eq44.true) ∙ c.loop-i.invariant

pub loop-i-preserved : goal.loop-i-preserved
loop-i-preserved c = name-next c.args.row.now c.loop-i.i (omega arith) c.if-b-eq44.false ∙ c.loop-i.invariant

pub returns-clause-cell : goal.returns-clause-cell
returns-clause-cell c =
    let s = c.args.row.now in
    let e : c.loop-i.i ≡ length s = omega arith in
    sym (name-over s (length s) (omega arith)) ∙ (rw e at c.loop-i.invariant)
