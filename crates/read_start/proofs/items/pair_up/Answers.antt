use mathlib.Core.Path.{refl, ◌∙◌}
use borrow.Author.Rules.{rules}
use native.Mathlib.Omega.{arith}
use Rattle.read_start.proofs.Queues.{none-paired, one-paired, all-paired}
use Rattle.read_start.proofs.items.pair_up.Goals as goal

pub loop-r-init : goal.loop-r-init
loop-r-init c = none-paired _

pub loop-r-preserved : goal.loop-r-preserved
loop-r-preserved c =
    one-paired _ _ _ _ c.loop-r.invariant (omega arith) (search rules)
    (c.put_at.ensures ∙ rw (c.slot_word-x.ensures, c.at_or.ensures, c.at_or-in-loop-r.ensures) refl)

pub returns : goal.returns
returns c = all-paired _ _ _ c.loop-r.invariant (omega arith)
