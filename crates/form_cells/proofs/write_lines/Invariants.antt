use Rattle.form_cells.proofs.Laws.{Evened}
use Rattle.form_cells.proofs.write_lines.Given as goal

abbrev pub invariant-loop-c : goal.invariant-loop-c
invariant-loop-c l = Evened l.cells l.initial.out l.separator l.c-index l.noted l.row.first l.row.commas l.row.at l.out
