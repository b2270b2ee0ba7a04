use mathlib.Core.Path.{sym}
use native.Mathlib.Omega.{arith}
use lib.ListN.{drop}
use Rattle.words.specs.Words.{tables_in}
use Rattle.read_items.proofs.Laws.{handed_on}
use Rattle.read_lines.proofs.Runs.{run-refused, run-then, run-seen}
use Rattle.read_sheet.proofs.TypeRows.{type_rows, type-rows}
use Rattle.read_sheet.proofs.types.read_type.Goals as goal

pub rows_run-requires-clause-number_bound : goal.rows_run-requires-clause-number_bound
rows_run-requires-clause-number_bound c = c.in_ok-transitions.ensures.few

pub rows_run-requires-2-clause-number_bound : goal.rows_run-requires-2-clause-number_bound
rows_run-requires-2-clause-number_bound c = omega (arith, c.in_ok-behaviors.ensures.few)

pub rows_run-requires-3-clause-number_bound : goal.rows_run-requires-3-clause-number_bound
rows_run-requires-3-clause-number_bound c = omega (arith, c.in_ok-ports.ensures.few)

pub returns-in_err-at : goal.returns-in_err-at
unfolding type_rows
returns-in_err-at c =
    rw (handed_on _ c.from_residual.ensures.1, sym (type-rows c.args.kind (tables_in c.args.tables.now) (drop c.args.start c.args.text.now)))
    (run-refused _ _ c.in_err-at.ensures)

pub returns-in_err-places : goal.returns-in_err-places
unfolding type_rows
returns-in_err-places c =
    rw (handed_on _ c.from_residual-in_err-places.ensures.1, sym (type-rows c.args.kind (tables_in c.args.tables.now) (drop c.args.start c.args.text.now)))
    (run-then _ _ c.in_ok-at.ensures
    (run-refused _ _ c.in_err-places.ensures.reads))

pub returns-in_err-initial : goal.returns-in_err-initial
unfolding type_rows
returns-in_err-initial c =
    rw (handed_on _ c.from_residual-in_err-initial.ensures.1, sym (type-rows c.args.kind (tables_in c.args.tables.now) (drop c.args.start c.args.text.now)))
    (run-then _ _ c.in_ok-at.ensures
    (run-then _ _ c.in_ok-places.ensures.reads
    (run-refused _ _ c.in_err-initial.ensures)))

pub returns-in_err-transitions : goal.returns-in_err-transitions
unfolding type_rows
returns-in_err-transitions c =
    rw (handed_on _ c.from_residual-in_err-transitions.ensures.1, sym (type-rows c.args.kind (tables_in c.args.tables.now) (drop c.args.start c.args.text.now)))
    (run-then _ _ c.in_ok-at.ensures
    (run-then _ _ c.in_ok-places.ensures.reads
    (run-then _ _ c.in_ok-initial.ensures
    (run-refused _ _ c.in_err-transitions.ensures.reads))))

pub returns-in_err-at-2 : goal.returns-in_err-at-2
unfolding type_rows
returns-in_err-at-2 c =
    rw (handed_on _ c.from_residual-in_err-at-2.ensures.1, sym (type-rows c.args.kind (tables_in c.args.tables.now) (drop c.args.start c.args.text.now)))
    (run-then _ _ c.in_ok-at.ensures
    (run-then _ _ c.in_ok-places.ensures.reads
    (run-then _ _ c.in_ok-initial.ensures
    (run-then _ _ c.in_ok-transitions.ensures.reads
    (run-refused _ _ c.in_err-at-2.ensures)))))

pub returns-in_err-behaviors : goal.returns-in_err-behaviors
unfolding type_rows
returns-in_err-behaviors c =
    rw (handed_on _ c.from_residual-in_err-behaviors.ensures.1, sym (type-rows c.args.kind (tables_in c.args.tables.now) (drop c.args.start c.args.text.now)))
    (run-then _ _ c.in_ok-at.ensures
    (run-then _ _ c.in_ok-places.ensures.reads
    (run-then _ _ c.in_ok-initial.ensures
    (run-then _ _ c.in_ok-transitions.ensures.reads
    (run-then _ _ c.in_ok-at-2.ensures
    (run-refused _ _ c.in_err-behaviors.ensures.reads))))))

pub returns-in_err-at-3 : goal.returns-in_err-at-3
unfolding type_rows
returns-in_err-at-3 c =
    rw (handed_on _ c.from_residual-in_err-at-3.ensures.1, sym (type-rows c.args.kind (tables_in c.args.tables.now) (drop c.args.start c.args.text.now)))
    (run-then _ _ c.in_ok-at.ensures
    (run-then _ _ c.in_ok-places.ensures.reads
    (run-then _ _ c.in_ok-initial.ensures
    (run-then _ _ c.in_ok-transitions.ensures.reads
    (run-then _ _ c.in_ok-at-2.ensures
    (run-then _ _ c.in_ok-behaviors.ensures.reads
    (run-refused _ _ c.in_err-at-3.ensures)))))))

pub returns-in_err-ports : goal.returns-in_err-ports
unfolding type_rows
returns-in_err-ports c =
    rw (handed_on _ c.from_residual-in_err-ports.ensures.1, sym (type-rows c.args.kind (tables_in c.args.tables.now) (drop c.args.start c.args.text.now)))
    (run-then _ _ c.in_ok-at.ensures
    (run-then _ _ c.in_ok-places.ensures.reads
    (run-then _ _ c.in_ok-initial.ensures
    (run-then _ _ c.in_ok-transitions.ensures.reads
    (run-then _ _ c.in_ok-at-2.ensures
    (run-then _ _ c.in_ok-behaviors.ensures.reads
    (run-then _ _ c.in_ok-at-3.ensures
    (run-refused _ _ c.in_err-ports.ensures.reads))))))))

pub returns-in_err-at-4 : goal.returns-in_err-at-4
unfolding type_rows
returns-in_err-at-4 c =
    rw (handed_on _ c.from_residual-in_err-at-4.ensures.1, sym (type-rows c.args.kind (tables_in c.args.tables.now) (drop c.args.start c.args.text.now)))
    (run-then _ _ c.in_ok-at.ensures
    (run-then _ _ c.in_ok-places.ensures.reads
    (run-then _ _ c.in_ok-initial.ensures
    (run-then _ _ c.in_ok-transitions.ensures.reads
    (run-then _ _ c.in_ok-at-2.ensures
    (run-then _ _ c.in_ok-behaviors.ensures.reads
    (run-then _ _ c.in_ok-at-3.ensures
    (run-then _ _ c.in_ok-ports.ensures.reads
    (run-refused _ _ c.in_err-at-4.ensures)))))))))

pub returns : goal.returns
unfolding type_rows
returns c =
    rw (c.put_type.ensures, sym (type-rows c.args.kind (tables_in c.args.tables.now) (drop c.args.start c.args.text.now)))
    (run-then _ _ c.in_ok-at.ensures
    (run-then _ _ c.in_ok-places.ensures.reads
    (run-then _ _ c.in_ok-initial.ensures
    (run-then _ _ c.in_ok-transitions.ensures.reads
    (run-then _ _ c.in_ok-at-2.ensures
    (run-then _ _ c.in_ok-behaviors.ensures.reads
    (run-then _ _ c.in_ok-at-3.ensures
    (run-then _ _ c.in_ok-ports.ensures.reads
    (run-seen _ c.in_ok-at-4.ensures)))))))))
