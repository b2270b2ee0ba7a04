use lib.ListN.{replicate}
use Rattle.write_items.specs.Written.{Written}
use Rattle.form_cells.proofs.write_commas.Given as goal

abbrev pub invariant-loop : goal.invariant-loop
invariant-loop l = Written l.initial.out (replicate l.counter 44) l.out l.at l.end
