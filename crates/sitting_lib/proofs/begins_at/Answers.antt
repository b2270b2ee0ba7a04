use mathlib.Core.Path.{◌∙◌}
use lib.ListN.{drop}
use Rattle.sitting_lib.proofs.Parts.{begins-as}
use Rattle.sitting_lib.proofs.begins_at.Goals as goal

pub returns : goal.returns
returns c = c.is_some.ensures ∙ begins-as c.args.due.now (drop c.args.at c.args.s.now) c.args.s.now _ c.past_key.ensures.same
