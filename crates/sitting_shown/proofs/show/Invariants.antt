-- The first bytes of the text are shown.
use lib.ListN.{take}
use Rattle.write_items.specs.Written.{Written}
use Rattle.sitting_shown.specs.Shown.{shown}
use Rattle.sitting_shown.proofs.show.Given as goal

abbrev pub invariant-loop-b : goal.invariant-loop-b
invariant-loop-b l = Written l.initial.t (shown l.among (take l.b-index l.text)) l.t l.at l.p
