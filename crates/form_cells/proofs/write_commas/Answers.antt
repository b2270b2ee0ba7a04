use mathlib.Core.Path.{◌≡◌}
use native.Mathlib.Omega.{arith}
use Rattle.write_items.proofs.Laws.{none, then}
use Rattle.form_cells.proofs.Laws.{one-comma}
use Rattle.form_cells.proofs.write_commas.Goals as goal

pub loop-init : goal.loop-init
loop-init c = none _ _

pub loop-preserved : goal.loop-preserved
loop-preserved c = rw (one-comma c.loop.counter 44) (then c.loop.invariant c.write_byte-end.ensures)

pub returns : goal.returns
returns c = let e : c.loop.counter ≡ c.args.count = omega arith in rw e at c.loop.invariant
