use Rattle.item_spec.specs.Read.{list_form}
use Rattle.read_items.proofs.one_list.Goals as goal

pub returns : goal.returns
unfolding list_form
returns c = c.list_then.ensures
