use Rattle.form_cells.proofs.Laws.{cells-none, cells-turn}
use Rattle.form_cells.proofs.put_cells.Goals as goal

pub loop-c-init : goal.loop-c-init
loop-c-init c = cells-none _

pub loop-c-preserved : goal.loop-c-preserved
loop-c-preserved c = cells-turn _ _ c.loop-c.c-index _ c.loop-c.invariant c.loop-c-test.true c.cell_byte.ensures
