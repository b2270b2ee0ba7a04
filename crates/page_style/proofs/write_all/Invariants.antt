-- The first lines are written.
use lib.ListN.{take}
use Rattle.std.specs.List.{flat_map}
use Rattle.write_items.specs.Written.{Written}
use Rattle.page_style.proofs.write_all.Given as goal

abbrev pub invariant-loop-line : goal.invariant-loop-line
invariant-loop-line l = Written l.initial.t (flat_map (λ x. x.now) (take l.line-index l.lines)) l.t l.at l.end
