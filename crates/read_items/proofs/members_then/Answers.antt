use mathlib.Core.Path.{sym, ◌∙◌}
use borrow.Author.Rules.{rules}
use Rattle.read_items.proofs.Laws.{list_over}
use Rattle.read_items.proofs.members_then.Goals as goal

pub list_byte-requires : goal.list_byte-requires
list_byte-requires c = c.loop-i.invariant.0

pub returns : goal.returns
returns c = record { within = search rules; same = sym (list_over _ _ _ _ _ _ _ _ c.loop-i-test.false) ∙ c.loop-i.invariant.1 }
