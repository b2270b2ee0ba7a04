use Rattle.item_spec.specs.Read.{one_form}
use Rattle.read_items.proofs.one_number.Goals as goal

pub returns : goal.returns
unfolding one_form
returns c = c.number_then.ensures
