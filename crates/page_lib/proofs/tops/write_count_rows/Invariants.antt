-- The rows of the groups below k are written.
use lib.ListN.{get_or}
use Rattle.page_spec.specs.Page.{count_row}
use Rattle.page_lib.proofs.Pieces.{Pieces}
use Rattle.page_lib.proofs.tops.write_count_rows.Given as goal

abbrev pub invariant-loop-k : goal.invariant-loop-k
invariant-loop-k l = Pieces (λ j. count_row j (get_or l.numbers j 0)) 41 l.k l.initial.t l.t l.at l.p
