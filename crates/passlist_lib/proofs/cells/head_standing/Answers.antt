use mathlib.Core.Path.{ap}
use Rattle.item_spec.specs.Read.{key}
use Rattle.register_spec.specs.Text.{head_text}
use Rattle.passlist_spec.specs.Row.{over}
use Rattle.passlist_spec.specs.Listed.{head_line, head_standing}
use Rattle.passlist_lib.proofs.Laws.{read-fault, read-then}
use Rattle.passlist_lib.proofs.cells.head_standing.Goals as goal

pub returns-in_default : goal.returns-in_default
unfolding head_line head_text
returns-in_default c = ap head_standing (read-fault (key head_text) (λ _. over) c.in_default.ensures).same

pub returns-in_default-past_end : goal.returns-in_default-past_end
unfolding head_line head_text
returns-in_default-past_end c = ap head_standing (read-then (key head_text) (λ _. over) c.in-Some.ensures c.in_default-past_end.ensures).same

pub returns : goal.returns
unfolding head_line head_text
returns c = ap head_standing (read-then (key head_text) (λ _. over) c.in-Some.ensures c.in-Some-past_end.ensures).same
