use Rattle.aeolus_lib.proofs.Order.{both-comes}
use Rattle.aeolus_lib.proofs.read_both.Goals as goal

pub returns : goal.returns
returns c =
    rw (c.outcome_of.ensures, c.alone.ensures)
    (both-comes _ _ c.fill_universe-said.result c.fill_plan-given.result _ _ c.fill_universe-said.ensures (rw c.types-n.ensures at c.fill_plan-given.ensures)).0
